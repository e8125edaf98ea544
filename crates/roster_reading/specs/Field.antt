-- The counts that stand before what they count, at a place of a file: a byte, two bytes, a stand's two lengths. Each is cut off, or
-- above its limit, or lets reading go on behind it.
use Rattle.std.specs.Prelude.{ℕ, ◌+◌, ◌*◌, ◌≤◌, ◌<◌, ◌≡◌, refl, List, [], ◌∷◌, length, drop, get_or, ltb}
use Rattle.std.proofs.Common.{arith, add-one, ap, ◌∙◌, length-drop, drop_of_length-le, drop-cons, lt-ltb, le-ltb}
use Rattle.model.specs.Limits.{entry_limit}
use Rattle.model.specs.Reading.{Reading, accepted, refused, ◌then◌, refuse_if, byte, two_bytes}
use Rattle.model.specs.Roster.{Entry, Ranking}
use Rattle.model.specs.RosterFile.{Layout, read_count, read_wide_count, read_entries, read_tied, read_ranking}

-- the bytes from a place on, one or two of them in front
from_one : (f : List ℕ) (at : ℕ) → at < length f → drop at f ≡ get_or f at 0 ∷ drop (at + 1) f
from_one f at h = rw (add-one, drop-cons f at 0 h)

from_two : (f : List ℕ) (at : ℕ) → at + 1 < length f → drop at f ≡ get_or f at 0 ∷ get_or f (at + 1) 0 ∷ drop (at + 2) f
from_two f at h =
    let e : at + 1 + 1 ≡ at + 2 = omega arith in
    from_one f at (omega arith) ∙ ap (λ z. get_or f at 0 ∷ z) (from_one f (at + 1) h ∙ ap (λ k. get_or f (at + 1) 0 ∷ drop k f) e)

-- not two bytes
from_cut : (f : List ℕ) (at : ℕ) → length f < at + 2 → length (drop at f) < 2
from_cut f at h = simp length-drop (omega arith)

two_cut : {A : Type 0} (bs : List ℕ) (k : ℕ × ℕ → List ℕ → Reading (A × List ℕ)) → length bs < 2 → (two_bytes bs then k) ≡ refused 1
two_cut [] k h = refl
two_cut (x ∷ []) k h = refl
two_cut (x ∷ y ∷ bs) k h = absurd (let z : ⊥ = omega arith in z)

byte_cut : {A : Type 0} (bs : List ℕ) (k : ℕ → ℕ → List ℕ → Reading (A × List ℕ)) → length bs < 2 → (byte bs then (λ a rest. byte rest then k a)) ≡ refused 1
byte_cut [] k h = refl
byte_cut (x ∷ []) k h = refl
byte_cut (x ∷ y ∷ bs) k h = absurd (let z : ⊥ = omega arith in z)

module _ {A : Type 0} (f : List ℕ) (at limit : ℕ) (body : ℕ → List ℕ → Reading (A × List ℕ)) where
  -- no byte for the count: 1
  pub count_end : length f ≤ at → (read_count limit (drop at f) then body) ≡ refused 1
  count_end h = rw (drop_of_length-le f h)

  -- a count above its limit: 2
  pub count_long : at < length f → limit < get_or f at 0 → (read_count limit (drop at f) then body) ≡ refused 2
  count_long h k = simp (from_one f at h, lt-ltb limit (get_or f at 0) k)

  -- a count within its limit: reading goes on behind it, with that number
  pub count_goes : at < length f → get_or f at 0 ≤ limit → (read_count limit (drop at f) then body) ≡ body (get_or f at 0) (drop (at + 1) f)
  count_goes h k = simp (from_one f at h, le-ltb limit (get_or f at 0) k)

-- a section's count
abbrev pub wide : List ℕ → ℕ → ℕ
wide f at = get_or f at 0 + 256 * get_or f (at + 1) 0

module _ {A : Type 0} (f : List ℕ) (at : ℕ) (body : ℕ → List ℕ → Reading (A × List ℕ)) where
  pub wide_end : length f < at + 2 → (read_wide_count (drop at f) then body) ≡ refused 1
  wide_end h =
      ap (λ r. r then body)
      (two_cut (drop at f) (λ w rest. refuse_if (ltb entry_limit (w.0 + 256 * w.1)) 2 (accepted (w.0 + 256 * w.1, rest))) (from_cut f at h))

  pub wide_long : at + 1 < length f → entry_limit < wide f at → (read_wide_count (drop at f) then body) ≡ refused 2
  wide_long h k = simp (from_two f at h, lt-ltb entry_limit (wide f at) k)

  pub wide_goes : at + 1 < length f → wide f at ≤ entry_limit → (read_wide_count (drop at f) then body) ≡ body (wide f at) (drop (at + 2) f)
  wide_goes h k = simp (from_two f at h, le-ltb entry_limit (wide f at) k)

-- a stand's two lengths
module _ (L : Layout) (f : List ℕ) (at longest other : ℕ) where
  abbrev pub tie_behind : ℕ → List Entry → List ℕ → Reading (Ranking × List ℕ)
  tie_behind b xs rest = read_tied L other xs b rest then (λ ys rest. accepted (record { strict = xs; tied = ys }, rest))

  pub lengths_end : length f < at + 2 → read_ranking L longest other (drop at f) ≡ refused 1
  lengths_end h = byte_cut (drop at f) (λ a b rest. refuse_if (ltb longest (a + b)) 2 (read_entries L other a rest then tie_behind b)) (from_cut f at h)

  pub lengths_long : at + 1 < length f → longest < get_or f at 0 + get_or f (at + 1) 0 → read_ranking L longest other (drop at f) ≡ refused 2
  lengths_long h k = simp (from_two f at h, lt-ltb longest (get_or f at 0 + get_or f (at + 1) 0) k)

  pub lengths_goes : at + 1 < length f → get_or f at 0 + get_or f (at + 1) 0 ≤ longest
      → read_ranking L longest other (drop at f) ≡ (read_entries L other (get_or f at 0) (drop (at + 2) f) then tie_behind (get_or f (at + 1) 0))
  lengths_goes h k = simp (from_two f at h, le-ltb longest (get_or f at 0 + get_or f (at + 1) 0) k)
