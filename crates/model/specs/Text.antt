-- Text as bytes: the words that are printed are plain letters, a byte each.
use Rattle.std.specs.Prelude.{ℕ}
use Prim.Native.Char.{code}
use Prim.Native.String.{String, [], ◌∷◌}
use mathlib.Core.List as L

-- the bytes of a text, a character's code each
unfoldable pub text : String → L.List ℕ
text [] = L.[]
text (c ∷ s) = L.◌∷◌ (code c) (text s)
