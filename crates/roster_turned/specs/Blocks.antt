-- The lists of a roster file by the places of their bytes, of surveyors and of stands alike: what the loops read, and what they write in the
-- other layout.
use Prim.Native.Nat.{ℕ, zero, suc, ◌+◌, ◌-◌, ◌*◌, ◌/◌, ◌≤◌, ◌<◌}
use native.Mathlib.Omega.{arith}
use Rattle.std.proofs.Common.{add-one, mul-le-mul_left, sym, ap, ◌∙◌, subst, drop_of_length-le, drop-cons}
use Rattle.std.proofs.Math.Nat.{mul-div-le}
use Rattle.std.specs.Prelude.{◌≡◌, Bool, true, false, not, cond, List, [], ◌∷◌, ◌++◌, length, take, drop, get_or}
use Rattle.lists.specs.Keep.{all?, gather}
use Rattle.model.specs.Roster.{Entry, no_entry}
use Rattle.model.specs.RosterFile.{Layout}
use Rattle.model_desk.specs.Seasons.{is_first}
use Rattle.roster_reading.specs.Check.{fields_length, fields_at}
use Rattle.roster_reading.specs.Layout.{layout_of, width_of, entry_from, entries_in}
use Rattle.roster_parts.specs.declared.RosterBytes.{RosterBytes}
use Rattle.roster_parts.specs.Growth.{Grown, Holds, holds_all, holds_then, holds_as}
use Rattle.roster_turned.specs.declared.Passed.{Passed}
use Rattle.roster_turned.specs.declared.Turned.{Turned}

-- a list as it stands in a file: its length bytes and its entries
pub record Block : Type 0 where
  pub heads : List ℕ
  pub list : List Entry

abbrev pub block_bytes : Layout → Block → List ℕ
block_bytes L b = b.heads ++ gather L.bytes b.list

abbrev pub first_block : Block → Bool
first_block b = all? is_first b.list

-- one length byte, or two where a list has a tie; so many entries they tell
abbrev pub heads_of : (ties : Bool) → ℕ
heads_of ties = cond ties 2 1

abbrev pub count_at : (ties : Bool) → List ℕ → ℕ → ℕ
count_at ties f at = cond ties (get_or f at 0 + get_or f (at + 1) 0) (get_or f at 0)

-- the entries of a part, as many as are whole
abbrev pub part_entries : (shifts : Bool) → List ℕ → List Entry
part_entries shifts bs = entries_in shifts (length bs / width_of shifts) bs

-- in the other layout
abbrev pub other_bytes : (shifts : Bool) → List Entry → List ℕ
other_bytes shifts xs = gather (layout_of (not shifts)).bytes xs

module _ (shifts ties : Bool) (f : List ℕ) where
  -- the list at a place, and the place behind it
  abbrev pub list_part : ℕ → List ℕ
  list_part at = take (width_of shifts * count_at ties f at) (drop (at + heads_of ties) f)

  abbrev pub block_at : ℕ → Block
  block_at at = record { heads = take (heads_of ties) (drop at f); list = part_entries shifts (list_part at) }

  abbrev pub behind_block : ℕ → ℕ
  behind_block at = at + (heads_of ties + width_of shifts * count_at ties f at)

  -- n lists from a place on, and the place behind them
  unfoldable pub blocks_from : (n at : ℕ) → List Block
  blocks_from zero at = []
  blocks_from (suc n) at = block_at at ∷ blocks_from n (behind_block at)

  unfoldable pub blocks_end : (n at : ℕ) → ℕ
  blocks_end zero at = at
  blocks_end (suc n) at = blocks_end n (behind_block at)

  -- ---- one turn of a loop over them, with lengths and widths as the code has them
  module _ (n i at l w k : ℕ) (h : i < n) (dl : l ≡ heads_of ties) (dw : w ≡ width_of shifts) (dk : k ≡ count_at ties f at) where
    pub blocks_turn : (heads list : List ℕ) → heads ≡ take l (drop at f) → list ≡ take (w * k) (drop (at + l) f)
        → blocks_from (n - i) at ≡ record { heads = heads; list = part_entries shifts list } ∷ blocks_from (n - (i + 1)) (at + (l + w * k))
    unfolding blocks_from
    blocks_turn heads list p q = let m : n - i ≡ suc (n - (i + 1)) = omega arith in rw (p, q, dl, dw, dk, m)

    pub end_turn : blocks_end (n - i) at ≡ blocks_end (n - (i + 1)) (at + (l + w * k))
    unfolding blocks_end
    end_turn = let m : n - i ≡ suc (n - (i + 1)) = omega arith in rw (dl, dw, dk, m)

  pub blocks_done : (n i at : ℕ) → n ≤ i → blocks_from (n - i) at ≡ []
  unfolding blocks_from
  blocks_done n i at h = let m : n - i ≡ 0 = omega arith in rw m

  pub end_done : (n i at : ℕ) → n ≤ i → blocks_end (n - i) at ≡ at
  unfolding blocks_end
  end_done n i at h = let m : n - i ≡ 0 = omega arith in rw m

-- a list's bytes are few
pub list_room : (shifts : Bool) (w k : ℕ) → w ≡ width_of shifts → k ≤ 510 → w * k ≤ 1020
list_room shifts w k e h = subst (λ z. z * k ≤ 1020) (sym e) (go shifts)
  where
    go : (b : Bool) → width_of b * k ≤ 1020
    go true = omega arith
    go false = omega arith

pub heads_few : (ties : Bool) → heads_of ties ≤ 2
heads_few true = omega arith
heads_few false = omega arith

-- ---- what the loops promise
-- the entries of a part, appended
pub record EntriesTurned (shifts : Bool) (part : List ℕ) (before : RosterBytes) (first : Bool) (after : RosterBytes) : Type 0 where
  pub grown : Grown (other_bytes shifts (part_entries shifts part)) before after
  pub ones : first ≡ all? is_first (part_entries shifts part)

-- lists, appended one behind the other
pub record ListsTurned (shifts ties : Bool) (f : List ℕ) (count start : ℕ) (before : RosterBytes) (r : Passed) (after : RosterBytes) : Type 0 where
  pub grown : Grown (gather (block_bytes (layout_of (not shifts))) (blocks_from shifts ties f count start)) before after
  pub first : r.first ≡ all? first_block (blocks_from shifts ties f count start)
  pub end : r.at ≡ blocks_end shifts ties f count start
  pub near : r.at ≤ start + 1022 * count

-- a roster: its counts and quotas, the surveyors' lists behind their count, the stands' behind theirs
module _ (shifts : Bool) (ns nt : ℕ) (f : List ℕ) where
  abbrev pub start : ℕ
  start = ns + nt + 4

  abbrev pub surveyor_blocks : List Block
  surveyor_blocks = blocks_from shifts false f ns start

  abbrev pub middle : ℕ
  middle = blocks_end shifts false f ns start

  abbrev pub stand_blocks : List Block
  stand_blocks = blocks_from shifts true f nt (middle + 2)

  abbrev pub turned_bytes : List ℕ
  turned_bytes = ((take start f ++ gather (block_bytes (layout_of (not shifts))) surveyor_blocks) ++ take 2 (drop middle f))
      ++ gather (block_bytes (layout_of (not shifts))) stand_blocks

  -- the bytes are the roster in the other layout, and it is told whether all that surveyors list is of shift 1
  pub record RosterTurned (r : Turned) : Type 0 where
    pub bytes : Holds turned_bytes r.roster
    pub first : r.first ≡ all? first_block surveyor_blocks

  -- the four parts, appended one behind the other
  pub turned_whole : {nodes total : List ℕ} {at : ℕ} {b₀ b₁ b₂ b₃ b₄ : RosterBytes} → nodes ≡ take start f → at ≡ middle → total ≡ take 2 (drop at f)
      → Holds [] b₀ → Grown nodes b₀ b₁ → Grown (gather (block_bytes (layout_of (not shifts))) surveyor_blocks) b₁ b₂ → Grown total b₂ b₃
      → Grown (gather (block_bytes (layout_of (not shifts))) (blocks_from shifts true f nt (at + 2))) b₃ b₄ → Holds turned_bytes b₄
  turned_whole p q t g₀ g₁ g₂ g₃ g₄ =
      let surveyors = gather (block_bytes (layout_of (not shifts))) surveyor_blocks in
      holds_as (λ k. ((p k ++ surveyors) ++ (t ∙ ap (λ z. take 2 (drop z f)) q) k) ++ gather (block_bytes (layout_of (not shifts)))
      (blocks_from shifts true f nt (q k + 2))) (holds_then (holds_then (holds_then (holds_all g₀ g₁) g₂) g₃) g₄)

-- ---- one turn of the loop over a part's entries
module _ (shifts : Bool) (bs : List ℕ) where
  abbrev count : ℕ
  count = length bs / width_of shifts

  entries_count : length (part_entries shifts bs) ≡ count
  entries_count = fields_length (width_of shifts) (entry_from shifts) count bs

  pub entry_room : (i : ℕ) → i < count → width_of shifts * i + width_of shifts ≤ length bs
  entry_room i h =
      let k : i + 1 ≤ count = omega arith in
      omega (arith, mul-le-mul_left (width_of shifts) k, mul-div-le (length bs) (width_of shifts))

  pub entry_near : (i : ℕ) → i < count → i < length bs
  entry_near i h = go shifts (entry_room i h)
    where
      go : (b : Bool) → width_of b * i + width_of b ≤ length bs → i < length bs
      go true k = omega arith
      go false k = omega arith

  pub entries_turn : (i : ℕ) → i < count → (x : Entry) → x ≡ entry_from shifts (drop (width_of shifts * i) bs)
      → drop i (part_entries shifts bs) ≡ x ∷ drop (i + 1) (part_entries shifts bs)
  entries_turn i h x e =
      let n : i < length (part_entries shifts bs) = omega (arith, entries_count) in
      rw (add-one, drop-cons (part_entries shifts bs) i no_entry n)
      (ap (λ y. y ∷ drop (suc i) (part_entries shifts bs)) (fields_at (width_of shifts) (entry_from shifts) count bs i no_entry h ∙ sym e))

  pub entries_done : (i : ℕ) → count ≤ i → drop i (part_entries shifts bs) ≡ []
  entries_done i h = let n : length (part_entries shifts bs) ≤ i = omega (arith, entries_count) in drop_of_length-le (part_entries shifts bs) n
