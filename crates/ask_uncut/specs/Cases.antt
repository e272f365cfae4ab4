-- Which case of 0E holds at an edge, by the numbers that the readers give. Definitions only.
use Rattle.std.specs.Prelude.{ℕ, not, ◌&&◌, cond, ◌≡◌, eqb, Result, Ok, Err}
use Rattle.std.specs.Bool.{beq}
use Rattle.number.specs.Said.{Said, done, no}
use Rattle.complex.specs.Uncut.{Uncut, two_faces, one_cycle, rings}
use Rattle.answer.specs.declared.Question.{Question}
use Rattle.answer.specs.Questions.{number_of}
use Rattle.ask_uncut_uses.specs.declared.Between.{Between}
use Rattle.ask_uncut_uses.specs.declared.Use.{Use}
use Rattle.ask_uncut_uses.specs.declared.Uses.{Uses}
use Rattle.ask_uncut_uses.specs.Uses.{use_at, case_of}

-- how the uses of the edge e lie: 0 with a case of 0E, or the number of the question
abbrev pub edge_says : ℕ → Result (Between × Use × Use) Question → Said Uncut
edge_says e (Err q) = no (number_of q)
edge_says e (Ok (k, u, w)) = done (case_of k (use_at e u) (use_at e w))

-- whatever the edge's id is, r says f of it
abbrev pub EdgeSays : Result (Between × Use × Use) Question → (ℕ → Said Uncut) → Type 0
EdgeSays r f = (e : ℕ) → edge_says e r ≡ f e

abbrev pub open_pair : Use → Use → ℕ → Said Uncut
open_pair u w e =
    cond (not (not (beq u.back w.back))) (no 6)
    (cond (not (eqb u.face w.face)) (done (two_faces (use_at e u) (use_at e w)))
    (cond (not (eqb u.cycle w.cycle)) (no 6)
    (cond u.back (done (one_cycle (use_at e u) (use_at e w))) (done (one_cycle (use_at e w) (use_at e u))))))

abbrev pub open_case : Uses → ℕ → Said Uncut
open_case x e = cond (eqb x.count 2) (open_pair x.one x.two e) (no 6)

abbrev pub closed_pair : Use → Use → ℕ → Said Uncut
closed_pair u w e = cond (not (beq u.back w.back) && not (eqb u.face w.face)) (done (rings (use_at e u) (use_at e w))) (no 6)

abbrev pub closed_case : Uses → ℕ → Said Uncut
closed_case x e = cond (eqb x.count 2) (closed_pair x.one x.two e) (no 6)
