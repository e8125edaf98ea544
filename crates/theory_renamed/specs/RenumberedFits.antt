-- A roster within the limits, renumbered by a route that names each stand once, is within the limits, lists each pair under its new number, and
-- is renumbered back by the way back.
use Prim.Native.Nat.{ℕ, suc, ◌-◌, ◌≤◌, ◌<◌}
use Rattle.std.proofs.Common.{arith, ◌∙◌}
use Rattle.std.specs.Prelude.{◌≡◌, ◌&&◌, ◌||◌, get_or, eqb}
use Rattle.std.proofs.Math.Path.{refl, sym, ap, ap₂, subst}
use Rattle.std.proofs.Math.Bool.{cond}
use mathlib.Core.List.{List, [], ◌∷◌, map}
use Rattle.std.proofs.Math.ListN.{length, length-map}
use Rattle.std.proofs.Math.Dec.{T}
use Rattle.lists.specs.Test.{given, by-eq, eqb_yes, eqb_no, and_l, and_r}
use Rattle.lists.specs.Ranges.{map_at}
use Rattle.model.specs.Limits.{list_limit}
use Rattle.model.specs.Roster.{Entry, Ranking, Roster, surveyor_count, stand_count, list_s, list_t, same, has, listed}
use Rattle.model.specs.Roster.{entry_fits, fits}
use Rattle.model.specs.Edges.{position}
use Rattle.model_files.specs.Routes.{new_number, entry_by, renumbered}
use Rattle.theory_files.specs.Entries.{in_range, in_range_law}
use Rattle.theory_files.specs.RosterInstance.{lists_count, rankings_count, list_fits_law}
use Rattle.theory_files.specs.ByLists.{list_range}
use Rattle.theory_renamed.specs.RouteNumbers.{Names, place_of, stand_at_law, old_place, old_suc}

abbrev no_ranking : Ranking
no_ranking = record { strict = []; tied = [] }

-- ---- a list in the route's order
module _ (route : List ℕ) (n : ℕ) (N : Names route n) {A : Type 0} (d : A) (xs : List A) (l : length xs ≡ n) where
  abbrev ordered : List A
  ordered = map (λ t. get_or xs (t - 1) d) route

  pub ordered_count : length ordered ≡ n
  ordered_count = length-map route (λ t. get_or xs (t - 1) d) ∙ N.count

  pub ordered_at : (j : ℕ) → j < n → get_or ordered j d ≡ get_or xs (old_place route n N j) d
  ordered_at j h = map_at (λ t. get_or xs (t - 1) d) route j 0 d (subst (λ m. j < m) (sym N.count) h)

-- ---- a surveyor's list under the new numbers
module _ (route : List ℕ) (n : ℕ) (N : Names route n) where
  abbrev by_route : List Entry → List Entry
  by_route xs = map (entry_by route) xs

  asked : (j t : ℕ) → j < n → 1 ≤ t → t ≤ n → eqb (suc j) (new_number route t) ≡ eqb (suc (old_place route n N j)) t
  asked j t l h k = by-eq (suc (old_place route n N j)) t
      (λ e b. eqb_yes (suc j) (new_number route t) (sym (place_of route n N j l) ∙ ap (new_number route) (sym (old_suc route n N j l) ∙ e)) ∙ sym b)
      (λ d b. eqb_no (suc j) (new_number route t)
      (λ q. d (old_suc route n N j l ∙ ap (λ z. get_or route z 0) (less j (new_number route t) q) ∙ stand_at_law route n N t h k)) ∙ sym b)
    where
      less : (j s : ℕ) → suc j ≡ s → j ≡ s - 1
      less j s e = omega arith

  -- the entry of a new number is that of the old
  abbrev old_entry : (j k : ℕ) → Entry
  old_entry j k = record { number = suc (old_place route n N j); shift = k }

  abbrev new_entry : (j k : ℕ) → Entry
  new_entry j k = record { number = suc j; shift = k }

  module _ (j k : ℕ) (l : j < n) where
    same_by : (y : Entry) → 1 ≤ y.number → y.number ≤ n → same (new_entry j k) (entry_by route y) ≡ same (old_entry j k) y
    same_by y a b = ap (λ c. c && eqb k y.shift) (asked j y.number l a b)

    pub has_by : (xs : List Entry) → T (in_range n xs) → has (new_entry j k) (by_route xs) ≡ has (old_entry j k) xs
    has_by [] t = refl
    has_by (y ∷ xs) t = given (in_range_law n y (and_l (entry_fits n y) (in_range n xs) t)) (λ (a, b, c, d).
        ap₂ (λ x z. x || z) (same_by y a b) (has_by xs (and_r (entry_fits n y) (in_range n xs) t)))

    pub position_by : (xs : List Entry) → T (in_range n xs) → position (new_entry j k) (by_route xs) ≡ position (old_entry j k) xs
    unfolding position
    position_by [] t = refl
    position_by (y ∷ xs) t = given (in_range_law n y (and_l (entry_fits n y) (in_range n xs) t)) (λ (a, b, c, d).
        ap₂ (λ x z. cond x 1 (suc z)) (same_by y a b) (position_by xs (and_r (entry_fits n y) (in_range n xs) t)))

-- ---- the roster
module _ (route : List ℕ) (r : Roster) (ok : T (fits r)) (N : Names route (stand_count r)) where
  abbrev n : ℕ
  n = stand_count r

  abbrev H : Roster
  H = renumbered route r

  abbrev old : ℕ → ℕ
  old = old_place route n N

  -- as many surveyors and as many stands as before
  pub renumbered_counts : (surveyor_count H ≡ surveyor_count r) × (stand_count H ≡ n)
  unfolding renumbered
  renumbered_counts = (refl, ordered_count route n N 0 r.quotas_t refl)

  pub list_renumbered : (i : ℕ) → i < surveyor_count r → list_s H i ≡ map (entry_by route) (list_s r i)
  unfolding renumbered
  list_renumbered i l = map_at (map (entry_by route)) r.lists_s i [] [] (omega (arith, lists_count r ok))

  pub ranking_renumbered : (j : ℕ) → j < n → list_t H j ≡ list_t r (old j)
  unfolding renumbered
  ranking_renumbered j l = ordered_at route n N no_ranking r.lists_t (rankings_count r ok) j l

  pub quota_renumbered : (j : ℕ) → j < n → get_or H.quotas_t j 0 ≡ get_or r.quotas_t (old j) 0
  unfolding renumbered
  quota_renumbered j l = ordered_at route n N 0 r.quotas_t refl j l

  pub in_list : (i : ℕ) → i < surveyor_count r → T (in_range n (list_s r i))
  in_list i l = list_range list_limit n (list_s r i) (list_fits_law r ok i l)

  pub listed_renumbered : (i j k : ℕ) → i < surveyor_count r → j < n → listed H i j k ≡ listed r i (old j) k
  unfolding listed
  listed_renumbered i j k l m = ap (has (record { number = suc j; shift = k })) (list_renumbered i l) ∙ has_by route n N j k m (list_s r i) (in_list i l)
