-- "With low and high both the rank in the roster, it is the ordinary vote": such ranges leave one choice, the roster's ranks (`settled_choice`), and
-- the vote under it is the vote (`settled_vote`).
use Prim.Native.Nat.{ℕ, zero, suc, ◌≤◌, ◌<◌}
use Rattle.std.proofs.Common.{arith, le_antisymm, ◌∙◌, ext_get_or}
use Rattle.std.specs.Prelude.{◌≡◌, replicate, T}
use Rattle.std.proofs.Math.Path.{ap, subst}
use Rattle.std.proofs.Math.Logic.{⊎_elim}
use mathlib.Core.List.Memᴰ
use mathlib.Core.List.{List, map}
use Rattle.std.proofs.Math.ListN.{length, get_or, length-append}
use Rattle.std.proofs.lemmas.List.{length-map}
use Rattle.lists.specs.Sum.{◌∈◌, range, ∈_range}
use Rattle.lists.specs.Keep.{gather, gather_∈, all_∈, get_d_∈}
use Rattle.lists.specs.Ranges.{map_at}
use Rattle.model.specs.Limits.{list_limit, rank_limit}
use Rattle.model.specs.Roster.{Roster, entries, fits, surveyor_count, stand_count, list_fits, ranking_fits}
use Rattle.model.specs.Ranges.{Range, Choice, roster_ranks, ranking_ranks, settled_at}
use Rattle.theory_ranges.specs.Worst.{Fit}
use Rattle.theory_files.specs.ByLists.{list_short, ranking_list, ByLists, fits_lists}

-- ranges that are settled leave one choice
pub settled_choice : (ns ws : List ℕ) → Choice (map settled_at ns) ws → ws ≡ ns
settled_choice ns ws c = ext_get_or 0 ws ns (c.each ∙ length-map ns settled_at) (λ k h.
    let l : k < length ns = omega (arith, c.each, length-map ns settled_at) in
    let s = map_at settled_at ns k 0 (record { low = 0; high = 0 }) l in
    le_antisymm (subst (λ x. get_or ws k 0 ≤ x.high) s (c.to k (omega (arith, c.each))))
    (subst (λ x. x.low ≤ get_or ws k 0) s (c.from k (omega (arith, c.each)))))

-- the roster's ranks are ranks that a range may have
module _ (r : Roster) (ok : T (fits r)) where
  small : (x : ℕ) → x ∈ roster_ranks r → (1 ≤ x) × (x ≤ rank_limit)
  unfolding roster_ranks
  small x m = ⊎_elim
      (λ k. let (xs, l, i) = gather_∈ (λ xs. range 1 (length xs)) r.lists_s k in
      let b = ∈_range (length xs) 1 i in
      let f = list_short list_limit (stand_count r) xs (all_∈ (list_fits list_limit (stand_count r)) r.lists_s F.fit_s xs l) in
      (omega (arith, b.0), omega (arith, b.1)))
      (λ k. let (R, l, i) = gather_∈ ranking_ranks r.lists_t k in
      let f = list_short list_limit (surveyor_count r) (entries R)
      (ranking_list list_limit (surveyor_count r) R (all_∈ (ranking_fits list_limit (surveyor_count r)) r.lists_t F.fit_t R l)) in
      ⊎_elim
      (λ j. let b = ∈_range (length R.strict) 1 j in (omega (arith, b.0), omega (arith, b.1, length-append R.strict R.tied)))
      (λ j. let b = in_replicate (length R.tied) (suc (length R.strict)) j in
      (omega (arith, b.0), omega (arith, b.0, b.1, length-append R.strict R.tied)))
      (Memᴰ.append_cases (range 1 (length R.strict)) i))
      (Memᴰ.append_cases (gather (λ xs. range 1 (length xs)) r.lists_s) m)
    where
      F : ByLists r
      F = fits_lists r ok

      in_replicate : (n a : ℕ) {x : ℕ} → x ∈ replicate n a → (x ≡ a) × (0 < n)
      in_replicate zero a m = absurd (Memᴰ.not-nil m)
      in_replicate (suc n) a (Memᴰ.head e) = (e, omega arith)
      in_replicate (suc n) a (Memᴰ.tail m) = ((in_replicate n a m).0, omega arith)

  abbrev settled : List Range
  settled = map settled_at (roster_ranks r)

  pub settled_fit : Fit settled
  settled_fit k h =
      let l : k < length (roster_ranks r) = omega (arith, length-map (roster_ranks r) settled_at) in
      let s = map_at settled_at (roster_ranks r) k 0 (record { low = 0; high = 0 }) l in
      let b = small (get_or (roster_ranks r) k 0) (get_d_∈ (roster_ranks r) k 0 l) in
      (omega (arith, ap (λ x. x.low) s, ap (λ x. x.high) s), omega (arith, ap (λ x. x.high) s, b.1))
