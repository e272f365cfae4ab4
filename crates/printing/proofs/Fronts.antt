-- A text at the front of a buffer. Assumes nothing.
use Prim.Native.Nat.{ℕ, ◌+◌, ◌≤◌}
use native.Mathlib.Omega.{arith}
use mathlib.Core.Path.{◌≡◌, refl, sym, ap, ◌∙◌}
use mathlib.Core.List.{List, [], ◌++◌}
use lib.ListN.{length, take, drop}
use lib.Seq.{sets, sets-eq, take-append_seam, drop-append_seam}
use Rattle.text.specs.Texts.{TextPut}
use Rattle.text.proofs.Puts.{put_length}
use Rattle.printing.specs.Texts.{Front}

module _ {entry text : List ℕ} {m : ℕ} {exit : List ℕ} {r : ℕ} (p : TextPut entry 0 text m exit r) (h : r ≤ length entry) where
  count_is : r ≡ length text
  count_is = let e = p.ends in omega arith

  exit_is : exit ≡ text ++ drop (length text) entry
  exit_is =
      let e = count_is in
      let z : 0 + length text ≡ length text = omega arith in
      p.stands ∙ sets-eq text entry 0 (omega arith) ∙ ap (λ (j : ℕ). text ++ drop j entry) z

  pub front_text : take r exit ≡ text
  front_text = (λ i. take (count_is i) (exit_is i)) ∙ take-append_seam text (drop (length text) entry)

  pub front : Front entry exit r
  front =
      record {
        fits = h;
        same = put_length p;
        kept = (λ i. drop (count_is i) (exit_is i)) ∙ drop-append_seam text (drop (length text) entry) ∙ ap (λ (n : ℕ). drop n entry) (sym count_is);
      }
