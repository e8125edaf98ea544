-- The bytes of an accepted roster in the order of a route, or of its way back, are those of the renumbered roster.
use Rattle.std.specs.Prelude.{ℕ, zero, suc, ◌+◌, ◌-◌, ◌*◌, ◌≤◌, ◌<◌, ◌≡◌, refl, take, drop, T}
use Rattle.std.proofs.Common.{zero-le, suc-le-suc, ◌∙◌, subst}
use native.Mathlib.Omega.{arith}
use Rattle.std.proofs.Math.Path.{sym, ap, ap₂}
use mathlib.Core.List.{List, [], ◌∷◌, ◌++◌, map, append_assoc}
use Rattle.std.proofs.Math.ListN.{length, get_or, length-append}
use Rattle.std.proofs.Math.Seq.{take_at}
use Rattle.lists.specs.Test.{given}
use Rattle.lists.specs.Sum.{range}
use Rattle.lists.specs.Keep.{all_∈, gather}
use Rattle.lists.specs.Ranges.{map_cong, gather_map}
use Rattle.model.specs.Limits.{node_limit, entry_width, list_limit}
use Rattle.model.specs.Reading.{accepted}
use Rattle.model.specs.Roster.{Entry, Ranking, Roster, entries, surveyor_count, stand_count, list_t, entry_fits, list_fits, fits}
use Rattle.model.specs.RosterFile.{shifted, list_bytes, entries_bytes, ranking_bytes, write_roster_by, write_roster}
use Rattle.model_files.specs.Routes.{new_number, entry_by, renumbered, way_back}
use Rattle.theory_files.specs.Entries.{in_range_law}
use Rattle.theory_files.specs.ByLists.{list_range, fits_lists}
use Rattle.theory_files.specs.Offsets.{part_is, lists_start, ranking_section, offsets, rankings_from_law}
use Rattle.theory_renamed.specs.RouteNumbers.{Names, name_inside, back_at}
use Rattle.theory_renamed.proofs.RouteNumbers.{back_number}
use Rattle.theory_renamed.specs.RenumberedFits.{renumbered_counts}
use Rattle.theory_renamed.proofs.RenumberedFits.{fits_renumbered}
use Rattle.roster_positions.specs.Tables.{behind}
use Rattle.roster_positions.specs.Rows.{bytes_length, ranking_is}
use Rattle.std.specs.declared.result.Result.TheVariants.{Ok}
use Rattle.roster_parts.specs.declared.RosterBytes.{RosterBytes}
use Rattle.roster_parts.specs.Places.{lists_behind}
use Rattle.roster_parts.specs.Growth.{Holds}
use Rattle.roster_parts.specs.Gives.{Gives, gives_held}
use Rattle.roster_parts.specs.Mapped.{under, all_under, lists_under, lists_under_law}
use Rattle.roster_routes.specs.Reordered.{Ordered, rankings_end, parts_from, quota_at, quotas_in_order, ranking_part, ranking_at, rankings_in_order, nodes_in_order}
use Rattle.roster_routes.specs.Reordered.{end_at, reordered_bytes}
use Rattle.roster_routes.specs.Marking.{Numbered, Places}

-- ---- the two tables of a route: for each number its stand, for each stand its number
pub record Way (route : List ℕ) (n : ℕ) (order numbers : List ℕ) : Type 0 where
  pub stand : (j : ℕ) → j < n → get_or order (j + 1) 0 ≡ get_or route j 0
  pub number : (t : ℕ) → 1 ≤ t → t ≤ n → get_or numbers t 0 ≡ new_number route t

module _ (route : List ℕ) (n : ℕ) (numbers places : List ℕ) (R : Numbered route n numbers) (P : Places route places) where
  -- storing goes by the route
  pub way_there : Way route n places numbers
  way_there = record { stand = λ j l. P.place j (subst (λ k. j < k) (sym R.names.count) l); number = R.number }

  -- unstoring by its way back, with the tables the other way round
  pub way_back_law : Way (way_back route) n numbers places
  way_back_law = record {
    stand = λ j l. R.number (j + 1) (omega arith) (omega arith) ∙ ap (new_number route) (one j) ∙ sym (back_at route n R.names j l);
    number = λ t a b. ap (λ k. get_or places k 0) (less t a) ∙ P.place (t - 1) (subst (λ k. t - 1 < k) (sym R.names.count) (omega arith))
        ∙ sym (back_number route n R.names t a b);
  }
    where
      one : (j : ℕ) → j + 1 ≡ suc j
      one j = omega arith

      less : (t : ℕ) → 1 ≤ t → t ≡ t - 1 + 1
      less t a = omega arith

-- where a route names each of at most 32 stands once, what takes each number is a number from 1 to 32
pub way_ordered : (route : List ℕ) (n : ℕ) (order numbers : List ℕ) → Names route n → n ≤ node_limit → Way route n order numbers → Ordered n order
way_ordered route n order numbers N few W j l = given (name_inside route n N j l) (λ (a, b).
    (subst (λ t. 1 ≤ t) (sym (W.stand j l)) a, subst (λ t. t ≤ node_limit) (sym (W.stand j l)) (omega arith)))

-- one part for each name of a list, by its places
parts_of : {A : Type 0} (part : A → List ℕ) (d : A) (xs : List A) (k : ℕ) (f : ℕ → List ℕ) → ((j : ℕ) → j < length xs → f (k + j) ≡ part (get_or xs j d))
    → gather f (range k (length xs)) ≡ gather part xs
parts_of part d [] k f h = refl
parts_of part d (x ∷ xs) k f h = ap₂ ◌++◌ (ap f (zero_plus k) ∙ h 0 (omega arith))
    (parts_of part d xs (suc k) f (λ j l. ap f (move k j) ∙ h (suc j) (omega arith)))
  where
    zero_plus : (k : ℕ) → k ≡ k + 0
    zero_plus k = omega arith

    move : (k j : ℕ) → suc k + j ≡ k + suc j
    move k j = omega arith

-- ---- a stand's list at its place
rankings_drop : (f : List ℕ) (ts : List Ranking) (k at : ℕ) → k < length ts → drop at f ≡ gather (ranking_bytes shifted) ts ++ []
    → (rest : List ℕ) × (drop (rankings_end f k at) f ≡ ranking_bytes shifted (get_or ts k (record { strict = []; tied = [] })) ++ rest)
unfolding rankings_end
rankings_drop f [] k at l e = absurd (let z : ⊥ = omega arith in z)
rankings_drop f (R ∷ ts) zero at l e =
    (gather (ranking_bytes shifted) ts ++ [], e ∙ append_assoc (ranking_bytes shifted R) (gather (ranking_bytes shifted) ts) [])
rankings_drop f (R ∷ ts) (suc k) at l e =
    let rest = gather (ranking_bytes shifted) ts ++ [] in
    given (ranking_is f at R rest (e ∙ append_assoc (ranking_bytes shifted R) (gather (ranking_bytes shifted) ts) [])) (λ q.
    rankings_drop f ts k (behind f at) (omega arith) q.rest)

ranking_part_law : (f : List ℕ) (at : ℕ) (R : Ranking) (rest : List ℕ) → drop at f ≡ ranking_bytes shifted R ++ rest → ranking_part f at ≡ ranking_bytes shifted R
ranking_part_law f at R rest e = given (ranking_is f at R rest e) (λ q.
    part_is f at (entry_width * (get_or f at 0 + get_or f (at + 1) 0) + 2) (ranking_bytes shifted R) rest e
    (omega (arith, bytes_length (entries R), length-append R.strict R.tied, q.count, q.tie_count)))

-- ---- the roster's bytes
module _ (route : List ℕ) (f : List ℕ) (r : Roster) (e : write_roster r ≡ f) (ok : T (fits r)) (N : Names route (stand_count r))
    (order numbers : List ℕ) (W : Way route (stand_count r) order numbers) where
  abbrev ns : ℕ
  ns = surveyor_count r

  abbrev nt : ℕ
  nt = stand_count r

  abbrev H : Roster
  H = renumbered route r

  head_part : take (ns + 2) f ≡ list_bytes r.quotas_s ++ nt ∷ []
  unfolding write_roster_by
  head_part =
      let n : length (list_bytes r.quotas_s ++ nt ∷ []) ≡ ns + 2 = omega (arith, length-append (list_bytes r.quotas_s) (nt ∷ [])) in
      ap (take (ns + 2)) (sym e ∙ sym (append_assoc (list_bytes r.quotas_s) (nt ∷ []) _)) ∙ take_at (list_bytes r.quotas_s ++ nt ∷ []) _ (ns + 2) n

  quotas_are : quotas_in_order f (ns + 1) order 0 nt ≡ H.quotas_t
  unfolding renumbered
  quotas_are = ap (parts_from (quota_at f (ns + 1) order) 0) (sym N.count)
      ∙ parts_of (λ t. get_or r.quotas_t (t - 1) 0 ∷ []) 0 route 0 (quota_at f (ns + 1) order)
      (λ j l. given (subst (λ k. j < k) N.count l) (λ k. given (name_inside route nt N j k) (λ (a, b).
      ap (λ t. get_or f (ns + 1 + t) 0 ∷ []) (ap (λ i. get_or order (i + 1) 0) (zero_plus j) ∙ W.stand j k)
      ∙ ap (λ z. z ∷ []) (ap (λ i. get_or f i 0) (place ns (get_or route j 0) a) ∙ (offsets shifted f r e).quotas_t (get_or route j 0 - 1) (omega arith)))))
      ∙ singles route
    where
      zero_plus : (j : ℕ) → 0 + j ≡ j
      zero_plus j = omega arith

      place : (ns t : ℕ) → 1 ≤ t → ns + 1 + t ≡ ns + 2 + (t - 1)
      place ns t a = omega arith

      singles : (ts : List ℕ) → gather (λ t. get_or r.quotas_t (t - 1) 0 ∷ []) ts ≡ map (λ t. get_or r.quotas_t (t - 1) 0) ts
      singles [] = refl
      singles (t ∷ ts) = ap (λ z. get_or r.quotas_t (t - 1) 0 ∷ z) (singles ts)

  nodes_are : nodes_in_order f ns nt order ≡ list_bytes H.quotas_s ++ list_bytes H.quotas_t
  unfolding renumbered
  nodes_are = ap₂ ◌++◌ head_part quotas_are ∙ append_assoc (list_bytes r.quotas_s) (nt ∷ []) H.quotas_t
      ∙ ap (λ n. list_bytes r.quotas_s ++ (n ∷ H.quotas_t)) (sym (renumbered_counts route r ok N).1)

  lists_are : lists_under numbers f ns (ns + nt + 4) ≡ gather (entries_bytes shifted) H.lists_s
  unfolding renumbered
  lists_are =
      ap (λ k. lists_under numbers f k (ns + nt + 4)) (sym (fits_lists r ok).count_s)
      ∙ lists_under_law numbers f r.lists_s (ns + nt + 4) (ranking_section shifted r) (offsets shifted f r e).lists
      ∙ ap (gather (entries_bytes shifted)) (map_cong (all_under numbers) (map (entry_by route)) r.lists_s (λ xs m.
      map_cong (under numbers) (entry_by route) xs (λ x k.
      given (in_range_law nt x (all_∈ (entry_fits nt) xs (list_range list_limit nt xs (all_∈ (list_fits list_limit nt) r.lists_s (fits_lists r ok).fit_s xs m)) x k))
      (λ (a, b, c, d). ap {B = Entry} (λ z. record { number = z; shift = x.shift }) (W.number x.number a b)))))

  rankings_here : drop (end_at f ns nt + 2) f ≡ gather (ranking_bytes shifted) r.lists_t ++ []
  rankings_here = rankings_from_law shifted f r (end_at f ns nt)
      (lists_behind r.lists_s ns (fits_lists r ok).count_s f (lists_start r) (ranking_section shifted r) (offsets shifted f r e).lists (suc-le-suc zero-le))

  rankings_are : rankings_in_order f (end_at f ns nt + 2) order 0 nt ≡ gather (ranking_bytes shifted) H.lists_t
  unfolding renumbered
  rankings_are = ap (parts_from (ranking_at f (end_at f ns nt + 2) order) 0) (sym N.count)
      ∙ parts_of (λ t. ranking_bytes shifted (list_t r (t - 1))) 0 route 0 (ranking_at f (end_at f ns nt + 2) order)
      (λ j l. given (subst (λ k. j < k) N.count l) (λ k. given (name_inside route nt N j k) (λ (a, b).
      ap (λ t. ranking_part f (rankings_end f (t - 1) (end_at f ns nt + 2))) (ap (λ i. get_or order (i + 1) 0) (zero_plus j) ∙ W.stand j k)
      ∙ given (rankings_drop f r.lists_t (get_or route j 0 - 1) (end_at f ns nt + 2) (omega (arith, (fits_lists r ok).count_t)) rankings_here) (λ (rest, d).
      ranking_part_law f (rankings_end f (get_or route j 0 - 1) (end_at f ns nt + 2)) (list_t r (get_or route j 0 - 1)) rest d))))
      ∙ sym (gather_map (ranking_bytes shifted) (λ t. list_t r (t - 1)) route)
    where
      zero_plus : (j : ℕ) → 0 + j ≡ j
      zero_plus j = omega arith

  -- an array that holds the reordered bytes of an accepted roster gives the renumbered roster
  pub reordered_gives : (c : RosterBytes) → Holds (reordered_bytes f ns nt order numbers) c → Gives (accepted H) (Ok c)
  reordered_gives c h = gives_held H (fits_renumbered route r ok N) (nodes_in_order f ns nt order) (lists_under numbers f ns (ns + nt + 4))
      (rankings_in_order f (end_at f ns nt + 2) order 0 nt) nodes_are lists_are rankings_are ns nt
      (renumbered_counts route r ok N).0 (renumbered_counts route r ok N).1 h
