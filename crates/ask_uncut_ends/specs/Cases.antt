-- Which case of 0E holds at a vertex, by the numbers that the readers give. Definitions only.
use Rattle.std.specs.Prelude.{ℕ, Bool, not, cond, eqb, Result, Ok, Err}
use Rattle.number.specs.Said.{Said, done, no}
use Rattle.complex.specs.Uncut.{Uncut, lonely, loop, joint, ends_of_one_edge}
use Rattle.answer.specs.declared.Question.{Question}
use Rattle.answer.specs.Questions.{number_of}
use Rattle.ask_uncut_ends.specs.declared.Ends.{Ends}
use Rattle.ask_uncut_ends.specs.declared.AtVertex.{AtVertex}
use Rattle.ask_uncut_ends.specs.declared.AtVertex.TheVariants.{Lonely, Loop, Joint}

-- the cases of `AtVertex`: 0 with a case of 0E, or the number of the question
abbrev pub vertex_says : Result AtVertex Question → Said Uncut
vertex_says (Err q) = no (number_of q)
vertex_says (Ok Lonely) = done lonely
vertex_says (Ok (Loop e)) = done (loop e)
vertex_says (Ok (Joint a p b q)) = done (joint (record { edge = a; backward = p }) (record { edge = b; backward = q }))

-- the ends x of one edge, and of two
abbrev pub loop_of : Ends → Uncut
loop_of x = loop x.one

abbrev pub joint_of : Ends → Uncut
joint_of x = joint (record { edge = x.one; backward = x.back1 }) (record { edge = x.two; backward = x.back2 })

-- two ends x; some passage turns back by the whole end, by the edge
abbrev pub pair_case : Bool → Bool → Ends → Said Uncut
pair_case whole edge x =
    cond (ends_of_one_edge (record { edge = x.one; backward = x.back1 }) (record { edge = x.two; backward = x.back2 }))
    (cond whole (no 6) (done (loop_of x)))
    (cond edge (no 6) (done (joint_of x)))

-- the ends x, and so many lone cycles
abbrev pub ends_case : Bool → Bool → ℕ → Ends → Said Uncut
ends_case whole edge lones x =
    cond (eqb x.count 0) (cond (eqb lones 1) (done lonely) (no 6))
    (cond (not (eqb x.count 2)) (no 6) (cond (not (eqb lones 0)) (no 6) (pair_case whole edge x)))
