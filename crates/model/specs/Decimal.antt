-- Bytes as document 01 shows them, decimal numbers with a space between two: for the cases.
use Rattle.std.specs.Prelude.{ℕ, ◌+◌, ◌-◌, ◌*◌, Bool, true, false, cond, ◌&&◌, eqb}
use Prim.Native.Char.{code}
use Prim.Native.String.{String, [], ◌∷◌}
use mathlib.Core.List as L

-- a number that has begun is put in front
abbrev ended : Bool → ℕ → L.List ℕ → L.List ℕ
ended true n ns = L.◌∷◌ n ns
ended false n ns = ns

-- the numbers in the rest of a text; if one has begun, n is what its digits make so far
unfoldable pub numbers_from : (begun : Bool) → ℕ → String → L.List ℕ
numbers_from b n [] = ended b n L.[]
numbers_from b n (c ∷ s) = cond (eqb (code c) 32) (ended b n (numbers_from false 0 s)) (numbers_from true (10 * n + (code c - 48)) s)

-- the bytes that a text shows
abbrev pub bytes : String → L.List ℕ
bytes s = numbers_from false 0 s

-- whether two files have the same bytes
abbrev pub same_bytes : L.List ℕ → L.List ℕ → Bool
same_bytes L.[] L.[] = true
same_bytes L.[] (L.◌∷◌ y ys) = false
same_bytes (L.◌∷◌ x xs) L.[] = false
same_bytes (L.◌∷◌ x xs) (L.◌∷◌ y ys) = eqb x y && same_bytes xs ys
