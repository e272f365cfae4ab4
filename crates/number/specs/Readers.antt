-- Readers, which take a thing off the front of bytes. Definitions only.
use Rattle.std.specs.Prelude.{ℕ, zero, suc, Bool, true, ◌&&◌, List, [], ◌∷◌, ◌++◌}

-- what a reader finds: a thing and the bytes after it, or no such thing
pub data Read (A : Type 0) : Type 0 where
  got : A → List ℕ → Read A
  bad : Read A

module _ {A B : Type 0} where
  -- one reader after another
  abbrev pub and_then : Read A → (A → List ℕ → Read B) → Read B
  and_then (got a s) f = f a s
  and_then bad f = bad

  -- what f gives for each element, one after another
  abbrev pub spread : (A → List B) → List A → List B
  spread f [] = []
  spread f (x ∷ xs) = f x ++ spread f xs

-- n things, each read by r
abbrev pub times : {A : Type 0} → (List ℕ → Read A) → ℕ → List ℕ → Read (List A)
times r zero s = got [] s
times r (suc n) s = and_then (r s) λ x t. and_then (times r n t) λ xs u. got (x ∷ xs) u

-- every element passes the test
abbrev pub all : {A : Type 0} → (A → Bool) → List A → Bool
all p [] = true
all p (x ∷ xs) = p x && all p xs
