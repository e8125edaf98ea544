-- The theorems that rest on specs/Sheets.antt. They stand here so that a wrong definition there is refused by a proof.
use Prim.Native.Nat.{ℕ, suc, ◌≤◌, ◌<◌, zero-le}
use Rattle.std.proofs.Common.{arith, le_antisymm, ◌∙◌, le→leb}
use Rattle.std.proofs.Math.Nat.{zero-add}
use Rattle.std.proofs.Math.Decide.{dec_lt}
use Rattle.std.specs.Prelude.{◌≡◌, refl, Bool, ◌&&◌, length, eqb, leb}
use Rattle.std.proofs.Math.Path.{sym, ap, subst}
use Rattle.std.proofs.Math.Logic.{by_cases}
use Rattle.std.proofs.Math.Bool.{true, false, not}
use mathlib.Core.List.Memᴰ
use mathlib.Core.List.{List, [], ◌∷◌, map}
use Rattle.std.proofs.Math.ListN.{length-map}
use Rattle.std.proofs.Math.Dec.{T, not_T, eqb→eq}
use Rattle.lists.specs.Test.{and_l, and_r, and_i, eq→eqb, bool_eq}
use Rattle.lists.specs.Sum.{◌∈◌, up_to, up_to_<, range, range_∈, ∈_range, range_length}
use Rattle.lists.specs.Keep.{all?, ∈_all}
use Rattle.lists.specs.Ranges.{map_at, range_at_law}
use Rattle.model.specs.Limits.{quota_limit, last_day}
use Rattle.model.specs.Roster.{Roster, elem, fits}
use Rattle.model.specs.Edges.{instance_of}
use Rattle.model.specs.Instance.{Instance, surveyors, stands, deg}
use Rattle.model.specs.Plans.{Plan, on, plans_of}
use Rattle.model.specs.Days.{entries_of, clash, spreads, days_used, busiest, Sheet}
use Rattle.theory_instance.specs.Lawful.{Lawful, Matching}
use Rattle.theory_instance.specs.Within.{within_matching}
use Rattle.theory_instance.specs.Degree.{deg_zero}
use Rattle.theory_files.specs.Chosen.{plan_within}
use Rattle.theory_files.specs.RosterInstance.{lawful, quotas_small}
use Rattle.theory_days.specs.Chain.{end_on, Proper}
use Rattle.theory_days.specs.Spread.{spread}
use Rattle.theory_days.proofs.Spread.{spread_proper}
use Rattle.theory_days.specs.Fewest.{days_most}
use Rattle.theory_days.specs.Sheets.{at, busiest_least, busy_eight, days_many, entries_at, greatest_most, spread_by, spread_of}

-- ---- days counted from one
suc_eqb : (a b : ℕ) → eqb (suc a) (suc b) ≡ eqb a b
suc_eqb a b = bool_eq (eqb (suc a) (suc b)) (eqb a b)
    (λ t. let e = eqb→eq (suc a) (suc b) t in eq→eqb a b (omega arith))
    (λ t. eq→eqb (suc a) (suc b) (ap suc (eqb→eq a b t)))

suc_elem : (d : ℕ) (ds : List ℕ) → elem (suc d) (map suc ds) ≡ elem d ds
suc_elem d [] = refl
suc_elem d (x ∷ ds) = simp (suc_eqb d x, suc_elem d ds)

suc_used : (ds : List ℕ) → days_used (map suc ds) ≡ days_used ds
suc_used [] = refl
suc_used (d ∷ ds) = simp (suc_elem d ds, suc_used ds)

module _ (G : Instance) (M : Plan) where
  -- its entries' surveyors and stands
  abbrev ends_s : List ℕ
  ends_s = map G.sv (entries_of G M)

  abbrev ends_t : List ℕ
  ends_t = map G.st (entries_of G M)

  abbrev entry_count : ℕ
  entry_count = length (entries_of G M)

  abbrev day_of : ℕ → ℕ
  day_of = spread (at ends_s) (at ends_t) last_day entry_count

  abbrev ours : List ℕ
  ours = spread_of G M

  proper_spreads : (ds : List ℕ) → length ds ≡ entry_count → Proper (at ends_s) (at ends_t) entry_count (at ds) → T (spreads G M ds)
  unfolding spreads
  proper_spreads ds e p = and_i (eqb (length ds) entry_count) _ (eq→eqb (length ds) entry_count e)
      (∈_all _ (up_to entry_count) (λ i m. ∈_all _ (up_to i) (λ j k. let li = up_to_< entry_count m in let lj = up_to_< i k in
      and_i (not (clash G.sv (entries_of G M) ds i j)) (not (clash G.st (entries_of G M) ds i j))
      (not_T (clash G.sv (entries_of G M) ds i j) (λ t. free G.sv false i j li lj (λ q. q) t))
      (not_T (clash G.st (entries_of G M) ds i j) (λ t. free G.st true i j li lj (λ q. q) t)))))
    where
      free : (end : ℕ → ℕ) (y : Bool) (i j : ℕ) → i < entry_count → j < i
          → (at (map end (entries_of G M)) i ≡ at (map end (entries_of G M)) j → end_on (at ends_s) (at ends_t) y i ≡ end_on (at ends_s) (at ends_t) y j)
          → T (clash end (entries_of G M) ds i j) → ⊥
      free end y i j li lj f t = p y i j li (omega arith) (omega arith)
          (f (map_at end (entries_of G M) i 0 0 li
          ∙ eqb→eq (end (at (entries_of G M) i)) (end (at (entries_of G M) j))
          (and_r (eqb (at ds i) (at ds j)) (eqb (end (at (entries_of G M) i)) (end (at (entries_of G M) j))) t)
          ∙ sym (map_at end (entries_of G M) j 0 0 (omega arith))))
          (eqb→eq (at ds i) (at ds j) (and_l (eqb (at ds i) (at ds j)) (eqb (end (at (entries_of G M) i)) (end (at (entries_of G M) j))) t))

  module _ (law : Lawful G) (match : Matching G (on M)) (small : (v : ℕ) → (G.quota_s v ≤ quota_limit) × (G.quota_t v ≤ quota_limit)) where
    -- no node has more entries than the busiest
    busy_s : (v : ℕ) → deg (surveyors G) (on M) v ≤ busiest G M
    unfolding busiest
    busy_s v = by_cases (dec_lt v G.ns)
        (λ h. greatest_most _ (Memᴰ.append_left (map (deg (stands G) (on M)) (range 0 G.nt))
        (Memᴰ.map (deg (surveyors G) (on M)) (range_∈ G.ns 0 v zero-le (omega arith)))))
        (λ n. omega (arith, deg_zero (surveyors G) (on M) v (λ e l i s. n (subst (λ z. z < G.ns) i (law.at_s.inside e l)))))

    busy_t : (v : ℕ) → deg (stands G) (on M) v ≤ busiest G M
    unfolding busiest
    busy_t v = by_cases (dec_lt v G.nt)
        (λ h. greatest_most _ (Memᴰ.append_right (map (deg (surveyors G) (on M)) (range 0 G.ns))
        (Memᴰ.map (deg (stands G) (on M)) (range_∈ G.nt 0 v zero-le (omega arith)))))
        (λ n. omega (arith, deg_zero (stands G) (on M) v (λ e l i s. n (subst (λ z. z < G.nt) i (law.at_t.inside e l)))))

    done : Proper (at ends_s) (at ends_t) entry_count day_of × ((j : ℕ) → j < entry_count → day_of j < busiest G M)
    done = spread_proper (at ends_s) (at ends_t) last_day (busiest G M) (omega (arith, busy_eight G M law match small)) entry_count
        (λ v. omega (arith, entries_at (surveyors G) (on M) v, busy_s v)) (λ v. omega (arith, entries_at (stands G) (on M) v, busy_t v))

    written : (j : ℕ) → j < entry_count → at ours j ≡ suc (day_of j)
    unfolding spread_by
    written j h =
        map_at suc (map day_of (range 0 entry_count)) j 0 0 (omega (arith, length-map (range 0 entry_count) day_of, range_length 0 entry_count))
        ∙ ap suc (map_at day_of (range 0 entry_count) j 0 0 (omega (arith, range_length 0 entry_count)) ∙ ap day_of (range_at_law entry_count 0 j h ∙ zero-add j))

    spread_apart : T (spreads G M ours)
    spread_apart = proper_spreads ours (days_many G M) (λ y i j li lj ne en eq. done.0 y i j li lj ne en
        (same (day_of i) (day_of j) (sym (written i li) ∙ eq ∙ written j lj)))
      where
        same : (a b : ℕ) → suc a ≡ suc b → a ≡ b
        same a b e = omega arith

    each : (p : ℕ → Bool) → ((d : ℕ) → d < busiest G M → T (p (suc d))) → T (all? p ours)
    unfolding spread_by
    each p h = ∈_all p ours (λ d m.
        let (x, k, e) = Memᴰ.of_map suc (map day_of (range 0 entry_count)) m in
        let (j, l, q) = Memᴰ.of_map day_of (range 0 entry_count) k in
        subst (λ z. T (p z)) e (h x (subst (λ z. z < busiest G M) q (done.1 j (inside j l)))))
      where
        inside : (j : ℕ) → j ∈ range 0 entry_count → j < entry_count
        inside j l = omega (arith, ∈_range entry_count 0 l)

    used_most : days_used ours ≤ busiest G M
    unfolding spread_by
    used_most = omega (arith, suc_used (map day_of (range 0 entry_count)), days_most (at ends_s) (at ends_t) entry_count day_of (busiest G M) done.1)

    pub sheet_is : Sheet G M ours
    sheet_is = record {
      apart = spread_apart;
      days = each (λ d. leb 1 d && leb d last_day) (λ d h. and_i (leb 1 (suc d)) (leb (suc d) last_day) (le→leb 1 (suc d) (omega arith))
          (le→leb (suc d) last_day (omega (arith, busy_eight G M law match small))));
      first = each (λ d. leb d (busiest G M)) (λ d h. le→leb (suc d) (busiest G M) (omega arith));
      used = le_antisymm used_most (busiest_least G M ours spread_apart);
      eight = busy_eight G M law match small;
      fewest = λ other t. omega (arith, used_most, busiest_least G M other t);
    }

-- for every plan within the quotas of a roster within the limits
pub sheet_holds : (r : Roster) → T (fits r) → (M : Plan) → M ∈ plans_of (instance_of r) → Sheet (instance_of r) M (spread_of (instance_of r) M)
sheet_holds r ok M m = sheet_is (instance_of r) M (lawful r ok) (within_matching (instance_of r) (on M) (lawful r ok) (plan_within (instance_of r) m))
    (quotas_small r ok)
