-- The bytes written of two accepted rosters are those of the two side by side, and the refusals are those of their sums.
use Prim.Native.Nat.{ℕ, suc, ◌+◌, ◌-◌, ◌≤◌, ◌<◌, zero-le, suc-le-suc}
use native.Mathlib.Omega.{arith}
use Rattle.std.specs.Prelude.{Result}
use Rattle.std.specs.declared.result.Result.TheVariants.{Ok, Err}
use Rattle.std.specs.Prelude.{◌≡◌, Bool, true, false, cond, ◌||◌, get_or, T, ltb}
use Rattle.std.proofs.Math.Path.{refl, sym, ap, ap₂}
use Rattle.std.proofs.Common.{◌∙◌, subst, length-append, take_all, lt-ltb, le-ltb}
use mathlib.Core.List.{List, [], ◌∷◌, ◌++◌, map, append_assoc, append-nil}
use Rattle.std.proofs.Math.ListN.{length, take, drop, length-drop}
use Rattle.std.proofs.Math.Seq.{take_at}
use Rattle.lists.specs.Test.{given}
use Rattle.lists.specs.Sum.{sum}
use Rattle.lists.specs.Keep.{all?, all_∈, gather}
use Rattle.lists.specs.Ranges.{gather_append, map_cong}
use Rattle.model.specs.Limits.{node_limit, quota_sum_limit, list_limit, roster_size}
use Rattle.model.specs.Reading.{Reading, accepted, refuse_by, is_bytes}
use Rattle.model.specs.Roster.{Entry, Ranking, Roster, entries, surveyor_count, stand_count, list_fits, ranking_fits, entry_fits, fits}
use Rattle.model.specs.RosterFile.{shifted, list_bytes, entries_bytes, ranking_bytes, write_roster_by, write_roster, read_roster}
use Rattle.model_files.specs.Districts.{entry_up, list_up, ranking_up, side_by_side, quotas_past, sums_check}
use Rattle.theory_files.specs.Entries.{in_range, in_range_law}
use Rattle.theory_files.specs.ByLists.{list_range, ranking_list, fits_lists}
use Rattle.theory_files.specs.Rosters.{read_write, read_fits, accepted_size}
use Rattle.theory_files.specs.RosterInstance.{ns_small, nt_small}
use Rattle.theory_files.specs.Offsets.{lists_start, ranking_section, offsets, rankings_from_law}
use Rattle.theory_renamed.specs.MovedUp.{range_parts}
use Rattle.theory_renamed.specs.JoinedFits.{Room, sums_by_counts_law, joined_counts, fits_joined}
use Rattle.answers.specs.declared.Refusal.{Refusal}
use Rattle.roster_districts.specs.declared.Counts.{Counts}
use Rattle.answers.specs.declared.Refusal.TheVariants.{TooMany, QuotaTooHigh}
use Rattle.roster_parts.specs.declared.RosterBytes.{RosterBytes}
use Rattle.roster_parts.specs.Places.{quotas_part, surveyors_are, stands_are, lists_behind, lists_part}
use Rattle.roster_parts.specs.Growth.{Holds}
use Rattle.roster_parts.specs.Gives.{Gives, gives_refused, gives_held}
use Rattle.roster_parts.specs.Mapped.{under, all_under, ranking_under, lists_under, rankings_under, lists_under_law, rankings_under_law}
use Rattle.roster_districts.specs.Beside.{up_table, up_at, quotas_from, nodes_beside, lists_beside, rankings_beside, end_at, beside_bytes}

-- an accepted file
abbrev pub Accepted : List ℕ → Type 0
Accepted f = (r : Roster) × (read_roster f ≡ accepted r)

-- what becomes of two accepted rosters
abbrev pub sums_to : Roster → Roster → Reading Roster
sums_to r q = refuse_by (sums_check r q) (accepted (side_by_side r q))

abbrev pub JoinedBy : (f g : List ℕ) → Result RosterBytes Refusal → Type 0
JoinedBy f g c = (r q : Roster) → read_roster f ≡ accepted r → read_roster g ≡ accepted q → Gives (sums_to r q) c

-- counts by which the two are joined: what holds the bytes of both, as they are put together by the counts, is what becomes of them
pub record ByCounts (f g : List ℕ) (k : Counts) : Type 0 where
  pub surveyors : k.ns + k.ms ≤ node_limit
  pub stands : k.nt + k.mt ≤ node_limit
  pub joined : (c : RosterBytes) → Holds (beside_bytes f k.ns k.nt g k.ms k.mt) c → JoinedBy f g (Ok c)

abbrev pub CountsJoin : (f g : List ℕ) → Result Counts Refusal → Type 0
CountsJoin f g (Ok k) = ByCounts f g k
CountsJoin f g (Err n) = JoinedBy f g (Err n)

module _ (n c : ℕ) (small : c ≤ node_limit) where
  list_under : (xs : List Entry) → T (in_range c xs) → all_under (up_table n) xs ≡ list_up n xs
  list_under xs t = map_cong (under (up_table n)) (entry_up n) xs (λ x m. given (in_range_law c x (all_∈ (entry_fits c) xs t x m)) (λ (a, b, d, e).
      ap {B = Entry} (λ z. record { number = z; shift = x.shift }) (up_at n x.number (omega arith))))

  lists_up : (ls : List (List Entry)) → T (all? (list_fits list_limit c) ls) → map (all_under (up_table n)) ls ≡ map (list_up n) ls
  lists_up ls t = map_cong (all_under (up_table n)) (list_up n) ls (λ xs m. list_under xs (list_range list_limit c xs (all_∈ (list_fits list_limit c) ls t xs m)))

  rankings_up : (ts : List Ranking) → T (all? (ranking_fits list_limit c) ts) → map (ranking_under (up_table n)) ts ≡ map (ranking_up n) ts
  rankings_up ts t = map_cong (ranking_under (up_table n)) (ranking_up n) ts (λ R m.
      given (range_parts c R.strict R.tied (list_range list_limit c (entries R) (ranking_list list_limit c R (all_∈ (ranking_fits list_limit c) ts t R m))))
      (λ (a, b). ap₂ {C = Ranking} (λ x y. record { strict = x; tied = y }) (list_under R.strict a) (list_under R.tied b)))

-- ---- where the parts of a file stand
module _ (f : List ℕ) (r : Roster) (e : write_roster r ≡ f) (ok : T (fits r)) where
  quotas_t_part : take (stand_count r) (drop (surveyor_count r + 2) f) ≡ r.quotas_t
  unfolding write_roster_by
  quotas_t_part =
      let n : surveyor_count r + 2 ≡ length (list_bytes r.quotas_s) + 1 = omega arith in
      ap₂ (λ k z. take (stand_count r) (drop k z)) n (sym e)
      ∙ ap (take (stand_count r)) (two_drops (list_bytes r.quotas_s) (stand_count r) r.quotas_t _)
      ∙ take_at r.quotas_t _ (stand_count r) refl
    where
      two_drops : (xs : List ℕ) (y : ℕ) (ys zs : List ℕ) → drop (length xs + 1) (xs ++ ((y ∷ ys) ++ zs)) ≡ ys ++ zs
      two_drops [] y ys zs = refl
      two_drops (x ∷ xs) y ys zs =
          let k : suc (length xs) + 1 ≡ suc (length xs + 1) = omega arith in
          ap (λ k. drop k (x ∷ (xs ++ ((y ∷ ys) ++ zs)))) k ∙ two_drops xs y ys zs

  from_end : drop (end_at f (surveyor_count r) (stand_count r)) f ≡ ranking_section shifted r
  from_end = lists_behind r.lists_s (surveyor_count r) (fits_lists r ok).count_s f (lists_start r) (ranking_section shifted r) (offsets shifted f r e).lists
      (suc-le-suc zero-le)

  lists_here : take (end_at f (surveyor_count r) (stand_count r) - lists_start r) (drop (lists_start r) f) ≡ gather (entries_bytes shifted) r.lists_s
  lists_here = lists_part r.lists_s (surveyor_count r) (fits_lists r ok).count_s f (lists_start r) (ranking_section shifted r) (offsets shifted f r e).lists
      (suc-le-suc zero-le)

  rankings_here : drop (end_at f (surveyor_count r) (stand_count r) + 2) f ≡ gather (ranking_bytes shifted) r.lists_t ++ []
  rankings_here = rankings_from_law shifted f r (end_at f (surveyor_count r) (stand_count r)) from_end

-- ---- the bytes of both
module _ (f g : List ℕ) (r q : Roster) (e : write_roster r ≡ f) (d : write_roster q ≡ g) (okr : T (fits r)) (okq : T (fits q)) (few : length f ≤ roster_size) where
  abbrev ns : ℕ
  ns = surveyor_count r

  abbrev nt : ℕ
  nt = stand_count r

  abbrev ms : ℕ
  ms = surveyor_count q

  abbrev mt : ℕ
  mt = stand_count q

  abbrev J : Roster
  J = side_by_side r q

  nodes_are : nodes_beside f ns nt g ms mt ≡ list_bytes J.quotas_s ++ list_bytes J.quotas_t
  unfolding side_by_side
  nodes_are =
      let s = r.quotas_s in
      let s' = q.quotas_s in
      let t = r.quotas_t in
      let t' = q.quotas_t in
      let a = quotas_part f r e in
      let b = quotas_part g q d in
      let x = quotas_t_part f r e okr in
      let y = quotas_t_part g q d okq in
      (λ i. (((((((ns + ms) ∷ []) ++ a i) ++ b i) ++ (nt + mt) ∷ []) ++ x i) ++ y i))
      ∙ ap₂ (λ n m. ((((n ∷ (s ++ s')) ++ m ∷ []) ++ t) ++ t')) (sym (length-append s s')) (sym (length-append t t'))
      ∙ regroup (list_bytes (s ++ s')) (length (t ++ t')) t t'
    where
      regroup : (s : List ℕ) (m : ℕ) (t t' : List ℕ) → ((s ++ m ∷ []) ++ t) ++ t' ≡ s ++ (m ∷ (t ++ t'))
      regroup s m t t' = simp append_assoc refl

  lists_are : lists_beside f (ns + nt + 4) (end_at f ns nt) g (ms + mt + 4) ms (up_table nt) ≡ gather (entries_bytes shifted) J.lists_s
  unfolding side_by_side
  lists_are =
      ap₂ (λ x y. x ++ y) (lists_here f r e okr)
      (ap (λ k. lists_under (up_table nt) g k (ms + mt + 4)) (sym (fits_lists q okq).count_s)
      ∙ lists_under_law (up_table nt) g q.lists_s (ms + mt + 4) (ranking_section shifted q) (offsets shifted g q d).lists
      ∙ ap (gather (entries_bytes shifted)) (lists_up nt mt (nt_small q okq) q.lists_s (fits_lists q okq).fit_s))
      ∙ sym (gather_append (entries_bytes shifted) r.lists_s (map (list_up nt) q.lists_s))

  rankings_are : rankings_beside f (end_at f ns nt + 2) g (end_at g ms mt + 2) mt (up_table ns) ≡ gather (ranking_bytes shifted) J.lists_t
  unfolding side_by_side
  rankings_are =
      ap₂ (λ x y. x ++ y)
      (take_all roster_size (drop (end_at f ns nt + 2) f) (omega (arith, length-drop (end_at f ns nt + 2) f)) ∙ rankings_here f r e okr
      ∙ append-nil (gather (ranking_bytes shifted) r.lists_t))
      (ap (λ k. rankings_under (up_table ns) g k (end_at g ms mt + 2)) (sym (fits_lists q okq).count_t)
      ∙ rankings_under_law (up_table ns) g q.lists_t (end_at g ms mt + 2) [] (rankings_here g q d okq)
      ∙ ap (gather (ranking_bytes shifted)) (rankings_up ns ms (ns_small q okq) q.lists_t (fits_lists q okq).fit_t))
      ∙ sym (gather_append (ranking_bytes shifted) r.lists_t (map (ranking_up ns) q.lists_t))

  beside_gives : Room r q → (c : RosterBytes) → Holds (beside_bytes f ns nt g ms mt) c → Gives (accepted J) (Ok c)
  beside_gives room c h = gives_held J (fits_joined r q okr okq room) (nodes_beside f ns nt g ms mt)
      (lists_beside f (ns + nt + 4) (end_at f ns nt) g (ms + mt + 4) ms (up_table nt))
      (rankings_beside f (end_at f ns nt + 2) g (end_at g ms mt + 2) mt (up_table ns)) nodes_are lists_are rankings_are (ns + ms) (nt + mt)
      (joined_counts r q okr okq).0 (joined_counts r q okr okq).1 h

-- ---- the call on two accepted files, with the counts as the code reads them
module _ (f g : List ℕ) (isF : T (is_bytes f)) (isG : T (is_bytes g)) (r q : Roster) (a : read_roster f ≡ accepted r) (b : read_roster g ≡ accepted q)
    (ns nt ms mt : ℕ) (d_s : ns ≡ get_or f 0 0) (d_t : nt ≡ get_or f (ns + 1) 0) (eS : ms ≡ get_or g 0 0) (eT : mt ≡ get_or g (ms + 1) 0) where
  w_f : write_roster r ≡ f
  w_f = read_write f r isF a

  w_g : write_roster q ≡ g
  w_g = read_write g q isG b

  okr : T (fits r)
  okr = read_fits f r isF a

  okq : T (fits q)
  okq = read_fits g q isG b

  is_s : ns ≡ surveyor_count r
  is_s = surveyors_are f r w_f ns d_s

  is_t : nt ≡ stand_count r
  is_t = stands_are f r w_f ns d_s nt d_t

  is_s' : ms ≡ surveyor_count q
  is_s' = surveyors_are g q w_g ms eS

  is_t' : mt ≡ stand_count q
  is_t' = stands_are g q w_g ms eS mt eT

  -- the four tests
  abbrev test_s : Bool
  test_s = ltb node_limit (surveyor_count r + surveyor_count q)

  abbrev test_t : Bool
  test_t = ltb node_limit (stand_count r + stand_count q)

  abbrev quota_s : ℕ
  quota_s = sum (λ x. x) r.quotas_s + sum (λ x. x) q.quotas_s

  abbrev quota_t : ℕ
  quota_t = sum (λ x. x) r.quotas_t + sum (λ x. x) q.quotas_t

  by_tests_law : (x y z w : Bool) (n : ℕ) → test_s ≡ x → test_t ≡ y → ltb quota_sum_limit quota_s ≡ z → ltb quota_sum_limit quota_t ≡ w
      → cond (x || y) 2 (cond (z || w) 3 0) ≡ n → sums_to r q ≡ refuse_by n (accepted (side_by_side r q))
  by_tests_law x y z w n a b c d e = ap (λ k. refuse_by k (accepted (side_by_side r q)))
      (sums_by_counts_law r q okr okq ∙ (λ i. cond (a i || b i) 2 (cond (c i || d i) 3 0)) ∙ e)

  or_true : (b : Bool) → b || true ≡ true
  or_true true = refl
  or_true false = refl

  pub many_surveyors : node_limit < ns + ms → Gives (sums_to r q) (Err TooMany)
  many_surveyors h = gives_refused (sums_to r q) TooMany
      (by_tests_law true test_t (ltb quota_sum_limit quota_s) (ltb quota_sum_limit quota_t) 2
      (lt-ltb node_limit (surveyor_count r + surveyor_count q) (omega (arith, is_s, is_s'))) refl refl refl refl)

  pub many_stands : node_limit < nt + mt → Gives (sums_to r q) (Err TooMany)
  many_stands h = gives_refused (sums_to r q) TooMany
      (by_tests_law test_s true (ltb quota_sum_limit quota_s) (ltb quota_sum_limit quota_t) 2 refl
      (lt-ltb node_limit (stand_count r + stand_count q) (omega (arith, is_t, is_t'))) refl refl
      (ap (λ b. cond b 2 (cond (quotas_past r q) 3 0)) (or_true test_s)))

  -- the quotas that the code adds are those of the roster
  sum_surveyors : quotas_from f 1 ns + quotas_from g 1 ms ≡ quota_s
  sum_surveyors = ap₂ (λ n m. quotas_from f 1 n + quotas_from g 1 m) is_s is_s'
      ∙ ap₂ (λ x y. sum (λ z. z) x + sum (λ z. z) y) (quotas_part f r w_f) (quotas_part g q w_g)

  sum_stands : quotas_from f (ns + 2) nt + quotas_from g (ms + 2) mt ≡ quota_t
  sum_stands = (λ i. quotas_from f (is_s i + 2) (is_t i) + quotas_from g (is_s' i + 2) (is_t' i))
      ∙ ap₂ (λ x y. sum (λ z. z) x + sum (λ z. z) y) (quotas_t_part f r w_f okr) (quotas_t_part g q w_g okq)

  module _ (few : ns + ms ≤ node_limit) (fewT : nt + mt ≤ node_limit) where
    no_s : test_s ≡ false
    no_s = le-ltb node_limit (surveyor_count r + surveyor_count q) (omega (arith, is_s, is_s'))

    no_t : test_t ≡ false
    no_t = le-ltb node_limit (stand_count r + stand_count q) (omega (arith, is_t, is_t'))

    pub surveyors_past : (s : ℕ) → s ≡ quotas_from f 1 ns + quotas_from g 1 ms → quota_sum_limit < s → Gives (sums_to r q) (Err QuotaTooHigh)
    surveyors_past s p h = gives_refused (sums_to r q) QuotaTooHigh
        (by_tests_law false false true (ltb quota_sum_limit quota_t) 3 no_s no_t
        (lt-ltb quota_sum_limit quota_s (subst (λ k. quota_sum_limit < k) (p ∙ sum_surveyors) h)) refl refl)

    pub stands_past : (t : ℕ) → t ≡ quotas_from f (ns + 2) nt + quotas_from g (ms + 2) mt → quota_sum_limit < t → Gives (sums_to r q) (Err QuotaTooHigh)
    stands_past t p h = gives_refused (sums_to r q) QuotaTooHigh
        (by_tests_law false false (ltb quota_sum_limit quota_s) true 3 no_s no_t refl
        (lt-ltb quota_sum_limit quota_t (subst (λ k. quota_sum_limit < k) (p ∙ sum_stands) h))
        (ap (λ b. cond b 3 0) (or_true (ltb quota_sum_limit quota_s))))

    pub side_by_side_law : (c : RosterBytes) (s t : ℕ) → s ≡ quotas_from f 1 ns + quotas_from g 1 ms → t ≡ quotas_from f (ns + 2) nt + quotas_from g (ms + 2) mt
        → s ≤ quota_sum_limit → t ≤ quota_sum_limit → Holds (beside_bytes f ns nt g ms mt) c → Gives (sums_to r q) (Ok c)
    side_by_side_law c s t p p' h k held =
        let x = subst (λ z. z ≤ quota_sum_limit) (p ∙ sum_surveyors) h in
        let y = subst (λ z. z ≤ quota_sum_limit) (p' ∙ sum_stands) k in
        subst (λ z. Gives z (Ok c))
        (sym (by_tests_law false false false false 0 no_s no_t (le-ltb quota_sum_limit quota_s x) (le-ltb quota_sum_limit quota_t y) refl))
        (beside_gives f g r q w_f w_g okr okq (accepted_size f r isF a)
        (record { count_s = omega (arith, is_s, is_s'); count_t = omega (arith, is_t, is_t'); quota_s = x; quota_t = y }) c
        (subst (λ b. Holds b c) (λ i. beside_bytes f (is_s i) (is_t i) g (is_s' i) (is_t' i)) held))
