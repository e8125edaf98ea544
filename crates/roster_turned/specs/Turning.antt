-- An accepted roster's file, turned: what is written is the same roster in the other layout, and whether all its shifts are 1 is told.
use Rattle.std.specs.Prelude.{ℕ, ◌+◌, ◌*◌, ◌/◌, ◌≤◌, ◌≡◌, true, false, not, ◌&&◌, drop, get_or, T, leb}
use Rattle.std.proofs.Common.{arith, sym, ap₂, ◌∙◌, eqb→eq, leb→le}
use Rattle.std.proofs.Math.Path.{refl, ap}
use Rattle.std.proofs.Math.Bool.{Bool}
use mathlib.Core.List.{List, [], ◌∷◌, ◌++◌, map, append_assoc, append-nil}
use Rattle.std.proofs.Math.ListN.{length, take, length-append}
use Rattle.std.proofs.Math.Seq.{take_at}
use Rattle.lists.specs.Test.{given, and_l, and_r}
use Rattle.lists.specs.Keep.{all?, gather}
use Rattle.lists.specs.Ranges.{gather_map}
use Rattle.model.specs.Limits.{node_limit}
use Rattle.model.specs.Reading.{accepted, is_bytes}
use Rattle.model.specs.Roster.{Entry, Ranking, Roster, entries, surveyor_count, stand_count, total_s, total_t, quotas_fit, fits_by}
use Rattle.model.specs.RosterFile.{Layout, list_bytes, wide_bytes, entries_bytes, ranking_bytes, read_roster_by, write_roster_by}
use Rattle.model_desk.specs.Seasons.{is_first, only_first}
use Rattle.theory_files.specs.Rosters.{Held, read_held, read_write_by, read_fits_by, fits_parts_by, entries_size}
use Rattle.theory_files.specs.Offsets.{head_is, tail_is, part_is, rest_is, lists_start, ranking_section, offsets, rankings_from_law}
use Rattle.roster_reading.specs.Check.{fields_of}
use Rattle.roster_reading.specs.Layout.{layout_of, agrees_of, width_of, entries_in}
use Rattle.roster_turned.specs.Blocks.{Block, block_bytes, first_block, heads_of, count_at, part_entries, block_at, behind_block, blocks_from, blocks_end}
use Rattle.roster_turned.specs.Blocks.{start, surveyor_blocks, middle, stand_blocks, turned_bytes}

-- ---- the entries of a part are those that were written there
entries_back : (shifts : Bool) (xs : List Entry) (post : List ℕ) → T (all? (agrees_of shifts).holds xs)
    → entries_in shifts (length xs) (gather (layout_of shifts).bytes xs ++ post) ≡ xs
unfolding fields_of
entries_back true [] post t = refl
entries_back true (x ∷ xs) post t = ap (λ ys. x ∷ ys) (entries_back true xs post t)
entries_back false [] post t = refl
entries_back false (x ∷ xs) post t = ap₂ {C = List Entry} (λ k ys. record { number = x.number; shift = k } ∷ ys)
    (sym (eqb→eq x.shift 1 (and_l (is_first x) (all? is_first xs) t))) (entries_back false xs post (and_r (is_first x) (all? is_first xs) t))

whole_entries : (shifts : Bool) (n : ℕ) → (width_of shifts * n) / width_of shifts ≡ n
whole_entries true n = omega arith
whole_entries false n = omega arith

part_back : (shifts : Bool) (xs : List Entry) → T (all? (agrees_of shifts).holds xs) → part_entries shifts (gather (layout_of shifts).bytes xs) ≡ xs
part_back shifts xs t =
    let bs = gather (layout_of shifts).bytes xs in
    ap₂ (entries_in shifts) (ap (λ n. n / width_of shifts) (entries_size (layout_of shifts) (agrees_of shifts) xs) ∙ whole_entries shifts (length xs))
    (sym (append-nil bs)) ∙ entries_back shifts xs [] t

-- ---- a list whose length bytes tell its entries, and whose entries the layout can hold
pub record Shaped (shifts ties : Bool) (b : Block) : Type 0 where
  pub lengths : length b.heads ≡ heads_of ties
  pub told : count_at ties b.heads 0 ≡ length b.list
  pub held : T (all? (agrees_of shifts).holds b.list)

module _ (shifts : Bool) (f : List ℕ) where
  abbrev L : Layout
  L = layout_of shifts

  -- the count is in the length bytes
  count_is : (ties : Bool) (at : ℕ) (heads rest : List ℕ) → drop at f ≡ heads ++ rest → length heads ≡ heads_of ties → count_at ties f at ≡ count_at ties heads 0
  count_is true at [] rest e l = absurd (let z : ⊥ = omega arith in z)
  count_is true at (x ∷ []) rest e l = absurd (let z : ⊥ = omega arith in z)
  count_is true at (x ∷ y ∷ hs) rest e l =
      ap₂ (λ a b. a + b) (head_is f at x (y ∷ hs ++ rest) e) (head_is f (at + 1) y (hs ++ rest) (tail_is f at x (y ∷ hs ++ rest) e))
  count_is false at [] rest e l = absurd (let z : ⊥ = omega arith in z)
  count_is false at (x ∷ hs) rest e l = head_is f at x (hs ++ rest) e

  module _ (ties : Bool) where
    block_is : (b : Block) → Shaped shifts ties b → (at : ℕ) (post : List ℕ) → drop at f ≡ block_bytes L b ++ post
        → (block_at shifts ties f at ≡ b) × (drop (behind_block shifts ties f at) f ≡ post)
    block_is b S at post e =
        let bs = gather L.bytes b.list in
        let e₁ : drop at f ≡ b.heads ++ (bs ++ post) = e ∙ append_assoc b.heads bs post in
        let n : count_at ties f at ≡ length b.list = count_is ties at b.heads (bs ++ post) e₁ S.lengths ∙ S.told in
        let e₂ : drop (at + heads_of ties) f ≡ bs ++ post = rest_is f at (heads_of ties) b.heads (bs ++ post) e₁ S.lengths in
        let l : length bs ≡ width_of shifts * count_at ties f at = entries_size L (agrees_of shifts) b.list ∙ ap (λ k. width_of shifts * k) (sym n) in
        let s : at + heads_of ties + width_of shifts * count_at ties f at ≡ behind_block shifts ties f at = omega arith in (
          ap₂ {C = Block} (λ x y. record { heads = x; list = y }) (part_is f at (heads_of ties) b.heads (bs ++ post) e₁ S.lengths)
              (ap (part_entries shifts) (part_is f (at + heads_of ties) (width_of shifts * count_at ties f at) bs post e₂ l)
              ∙ part_back shifts b.list S.held),
          ap (λ k. drop k f) (sym s) ∙ rest_is f (at + heads_of ties) (width_of shifts * count_at ties f at) bs post e₂ l,
        )

    blocks_are : {A : Type 0} (block : A → Block) (xs : List A)
        → ((x : A) → T (all? (agrees_of shifts).holds (block x).list) → Shaped shifts ties (block x))
        → T (all? (λ x. all? (agrees_of shifts).holds (block x).list) xs) → (at : ℕ) (post : List ℕ)
        → drop at f ≡ gather (λ x. block_bytes L (block x)) xs ++ post
        → (blocks_from shifts ties f (length xs) at ≡ map block xs) × (drop (blocks_end shifts ties f (length xs) at) f ≡ post)
    unfolding blocks_from blocks_end
    blocks_are block [] S t at post e = (refl, e)
    blocks_are {A} block (x ∷ xs) S t at post e =
        let holds : A → Bool = λ x. all? (agrees_of shifts).holds (block x).list in
        given (block_is (block x) (S x (and_l (holds x) (all? holds xs) t)) at (gather (λ x. block_bytes L (block x)) xs ++ post)
        (e ∙ append_assoc (block_bytes L (block x)) (gather (λ x. block_bytes L (block x)) xs) post)) (λ (p, q).
        given (blocks_are block xs S (and_r (holds x) (all? holds xs) t) (behind_block shifts ties f at) post q) (λ (p', q').
        (ap₂ (λ b bs. b ∷ bs) p p', q')))

-- ---- the lists of a roster
abbrev list_block : List Entry → Block
list_block xs = record { heads = length xs ∷ []; list = xs }

abbrev ranking_block : Ranking → Block
ranking_block R = record { heads = length R.strict ∷ length R.tied ∷ []; list = entries R }

list_shaped : (shifts : Bool) (xs : List Entry) → T (all? (agrees_of shifts).holds xs) → Shaped shifts false (list_block xs)
list_shaped shifts xs t = record { lengths = refl; told = refl; held = t }

ranking_shaped : (shifts : Bool) (R : Ranking) → T (all? (agrees_of shifts).holds (entries R)) → Shaped shifts true (ranking_block R)
ranking_shaped shifts R t = record { lengths = refl; told = sym (length-append R.strict R.tied); held = t }

first_map : (ls : List (List Entry)) → all? first_block (map list_block ls) ≡ all? (λ xs. all? is_first xs) ls
first_map [] = refl
first_map (xs ∷ ls) = ap (λ b. all? is_first xs && b) (first_map ls)

join_up : (a b c d w k : List ℕ) → (((a ++ (b ++ c)) ++ d) ++ w) ++ k ≡ a ++ (b ++ ((c ++ d) ++ (w ++ k)))
join_up a b c d w k = simp append_assoc refl

-- ---- the file of a roster, as its layout writes it
module _ (shifts : Bool) (f : List ℕ) (r : Roster) (e : write_roster_by (layout_of shifts) r ≡ f) (held : Held (layout_of shifts) (agrees_of shifts) r)
    (ns nt : ℕ) (count_s : length r.lists_s ≡ ns) (count_t : length r.lists_t ≡ nt) (is_s : ns ≡ surveyor_count r) (is_t : nt ≡ stand_count r) where
  abbrev from : ℕ
  from = start shifts ns nt f

  same_start : from ≡ lists_start r
  same_start = ap₂ (λ a b. a + b + 4) is_s is_t

  surveyors : (surveyor_blocks shifts ns nt f ≡ map list_block r.lists_s) × (drop (middle shifts ns nt f) f ≡ ranking_section (layout_of shifts) r)
  surveyors = given (blocks_are shifts f false list_block r.lists_s (list_shaped shifts) held.0 from (ranking_section (layout_of shifts) r)
      (ap (λ k. drop k f) same_start ∙ (offsets (layout_of shifts) f r e).lists)) (λ (p, q).
      (ap (λ k. blocks_from shifts false f k from) (sym count_s) ∙ p, ap (λ k. drop (blocks_end shifts false f k from) f) (sym count_s) ∙ q))

  stands : stand_blocks shifts ns nt f ≡ map ranking_block r.lists_t
  stands = ap (λ k. blocks_from shifts true f k (middle shifts ns nt f + 2)) (sym count_t)
      ∙ (blocks_are shifts f true ranking_block r.lists_t (ranking_shaped shifts) held.1 (middle shifts ns nt f + 2) []
      (rankings_from_law (layout_of shifts) f r (middle shifts ns nt f) surveyors.1)).0

  nodes : take from f ≡ list_bytes r.quotas_s ++ (list_bytes r.quotas_t ++ wide_bytes (total_s r.lists_s))
  unfolding write_roster_by
  nodes =
      let a = list_bytes r.quotas_s in
      let b = list_bytes r.quotas_t in
      let c = wide_bytes (total_s r.lists_s) in
      let d = gather (entries_bytes (layout_of shifts)) r.lists_s in
      let k = ranking_section (layout_of shifts) r in
      let n : length (a ++ (b ++ c)) ≡ from = omega (arith, is_s, is_t, length-append a (b ++ c), length-append b c) in
      let s : a ++ (b ++ ((c ++ d) ++ k)) ≡ (a ++ (b ++ c)) ++ (d ++ k) = simp append_assoc refl in
      ap (take from) (sym e ∙ s) ∙ take_at (a ++ (b ++ c)) (d ++ k) from n

  pub turned_bytes_law : turned_bytes shifts ns nt f ≡ write_roster_by (layout_of (not shifts)) r
  unfolding write_roster_by
  turned_bytes_law =
      let M = layout_of (not shifts) in
      let lists = gather (entries_bytes M) r.lists_s in
      let rankings = gather (ranking_bytes M) r.lists_t in
      let p : gather (block_bytes M) (surveyor_blocks shifts ns nt f) ≡ lists =
      ap (gather (block_bytes M)) surveyors.0 ∙ gather_map (block_bytes M) list_block r.lists_s in
      let q : gather (block_bytes M) (stand_blocks shifts ns nt f) ≡ rankings =
      ap (gather (block_bytes M)) stands ∙ gather_map (block_bytes M) ranking_block r.lists_t in
      let t : take 2 (drop (middle shifts ns nt f) f) ≡ wide_bytes (total_t r.lists_t) = ap (take 2) surveyors.1 in
      (λ k. ((nodes k ++ p k) ++ t k) ++ q k)
      ∙ join_up (list_bytes r.quotas_s) (list_bytes r.quotas_t) (wide_bytes (total_s r.lists_s)) lists (wide_bytes (total_t r.lists_t)) rankings

  pub turned_first : all? first_block (surveyor_blocks shifts ns nt f) ≡ only_first r
  turned_first = ap (all? first_block) surveyors.0 ∙ first_map r.lists_s

-- ---- an accepted file, with the counts as the code reads them
module _ (shifts : Bool) (f : List ℕ) (is_b : T (is_bytes f)) (r : Roster) (a : read_roster_by (layout_of shifts) f ≡ accepted r)
    (ns nt : ℕ) (d_s : ns ≡ get_or f 0 0) (d_t : nt ≡ get_or f (ns + 1) 0) where
  abbrev written : write_roster_by (layout_of shifts) r ≡ f
  written = read_write_by (layout_of shifts) (agrees_of shifts) f r is_b a

  is_s : ns ≡ surveyor_count r
  is_s = d_s ∙ (offsets (layout_of shifts) f r written).surveyors

  is_t : nt ≡ stand_count r
  is_t = d_t ∙ ap (λ k. get_or f (k + 1) 0) is_s ∙ (offsets (layout_of shifts) f r written).stands

  fit : T (fits_by (layout_of shifts).longest r)
  fit = read_fits_by (layout_of shifts) (agrees_of shifts) f r is_b a

  -- it has at most 32 surveyors and at most 32 stands
  pub counts_few : (ns ≤ node_limit) × (nt ≤ node_limit)
  counts_few = given (fits_parts_by (layout_of shifts).longest r fit) (λ ((p, q, s, t), n).
      (omega (arith, is_s, few r.quotas_s p), omega (arith, is_t, few r.quotas_t q)))
    where
      few : (qs : List ℕ) → T (quotas_fit qs) → length qs ≤ node_limit
      few qs p = leb→le (length qs) node_limit (and_l (leb (length qs) node_limit) _ p)

  -- what is written is the roster in the other layout, and what is told is whether its surveyors list shift 1 alone
  pub turned_is : (turned_bytes shifts ns nt f ≡ write_roster_by (layout_of (not shifts)) r) × (all? first_block (surveyor_blocks shifts ns nt f) ≡ only_first r)
  turned_is = given (fits_parts_by (layout_of shifts).longest r fit) (λ ((p, q, (l_s, s, u), (l_t, t, v)), n).
      given (read_held (layout_of shifts) (agrees_of shifts) f r is_b a) (λ held. (
        turned_bytes_law shifts f r written held ns nt (l_s ∙ sym is_s) (l_t ∙ sym is_t) is_s is_t,
        turned_first shifts f r written held ns nt (l_s ∙ sym is_s) (l_t ∙ sym is_t) is_s is_t,
      )))
