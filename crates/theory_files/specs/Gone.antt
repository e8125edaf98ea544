-- To leave a second time (request W-202: "leaving twice changes nothing more"): a surveyor with quota 0 and an empty list stands in no stand's list
-- either, so that the roster without that surveyor is the roster, and a plan carried over to it is the plan.
use Prim.Native.Nat.{ℕ, suc, ◌-◌, ◌<◌}
use Rattle.std.proofs.Common.{arith, sym, ◌∙◌, subst, ext_get_or, get_or-set_same, eqb→eq, T_not}
use Rattle.std.specs.Prelude.{◌≡◌, refl, not, length, T, eqb}
use Rattle.std.proofs.Math.Path.{ap, ap₂}
use mathlib.Core.List.Memᴰ
use mathlib.Core.List.{List, [], ◌∷◌, map}
use Rattle.std.proofs.Math.ListN.{get_or, set, get_or-map}
use Rattle.std.proofs.lemmas.List.{length-map}
use Rattle.std.proofs.Math.Seq.{set-get_or}
use Rattle.std.proofs.Math.Dec.{eqb_refl}
use Rattle.lists.specs.Test.{given, and_l, and_r, and_i, eq→eqb, by-eq, false_t}
use Rattle.lists.specs.Sum.{◌∈◌, range_∈}
use Rattle.lists.specs.Keep.{keep_all, all_∈, none_∈}
use Rattle.model.specs.Limits.{shift_limit, list_limit}
use Rattle.model.specs.Reading.{accepted}
use Rattle.model.specs.Roster.{Entry, Ranking, Roster, entries, surveyor_count, stand_count, list_s, list_t, same, has, listed, listed_back, entry_fits, fits}
use Rattle.model_changes.specs.Changes.{departed, leave_on, gone}
use Rattle.theory_files.specs.Entries.{in_range_law}
use Rattle.theory_files.specs.ByLists.{list_range, fits_lists}
use Rattle.theory_files.specs.RosterInstance.{entries_fit}
use Rattle.theory_files.specs.Departed.{others, one_less, leave_parts}

module _ (r : Roster) (ok : T (fits r)) (v : ℕ) (inside : v < surveyor_count r) (quota : get_or r.quotas_s v 0 ≡ 0) (list : list_s r v ≡ []) where
  -- a stand's list has the number in no shift, as the surveyor's own list has none
  nowhere : (j : ℕ) → j < stand_count r → (x : Entry) → x ∈ entries (list_t r j) → T (not (eqb (suc v) x.number))
  unfolding listed listed_back
  nowhere j h x m = by-eq (suc v) x.number
      (λ e b. absurd (T_not (same own x) (none_∈ (same own) (entries (list_t r j)) none x m)
      (and_i (eqb (suc v) x.number) (eqb x.shift x.shift) (eq→eqb (suc v) x.number e) (eqb_refl x.shift))))
      (λ n b. false_t b)
    where
      own : Entry
      own = record { number = suc v; shift = x.shift }

      none : T (not (has (record { number = suc v; shift = x.shift }) (entries (list_t r j))))
      none =
          given (in_range_law (surveyor_count r) x (all_∈ (entry_fits (surveyor_count r)) (entries (list_t r j))
          (list_range list_limit (surveyor_count r) (entries (list_t r j)) (entries_fit r ok j h)) x m)) (λ (a, b, c, d).
          false_t (sym ((fits_lists r ok).pairs v j x.shift inside h (range_∈ shift_limit 1 x.shift c (omega arith)))
          ∙ ap (has (record { number = suc j; shift = x.shift })) list))

  abbrev no_ranking : Ranking
  no_ranking = record { strict = []; tied = [] }

  same_ranking : (j : ℕ) → j < stand_count r → others (suc v) (list_t r j) ≡ list_t r j
  same_ranking j h =
      let R = list_t r j in
      ap₂ (λ (a b : List Entry). record { strict = a; tied = b })
      (keep_all (λ x. not (eqb (suc v) x.number)) R.strict (λ x m. nowhere j h x (Memᴰ.append_left R.tied m)))
      (keep_all (λ x. not (eqb (suc v) x.number)) R.tied (λ x m. nowhere j h x (Memᴰ.append_right R.strict m)))

  same_rankings : map (others (suc v)) r.lists_t ≡ r.lists_t
  same_rankings = ext_get_or no_ranking (map (others (suc v)) r.lists_t) r.lists_t (length-map r.lists_t (others (suc v)))
      (λ j h. get_or-map (others (suc v)) r.lists_t j no_ranking
      ∙ same_ranking j (subst (λ n. j < n) (length-map r.lists_t (others (suc v)) ∙ (fits_lists r ok).count_t) h))

  departed_same : departed r (suc v) ≡ r
  unfolding departed
  departed_same =
      ap₂ (λ qs ls. record { quotas_s = qs; quotas_t = r.quotas_t; lists_s = ls; lists_t = map (others (suc v)) r.lists_t })
      (stays r.quotas_s 0 0 quota) (stays r.lists_s [] [] list)
      ∙ ap (λ ts. record { quotas_s = r.quotas_s; quotas_t = r.quotas_t; lists_s = r.lists_s; lists_t = ts }) same_rankings
    where
      stays : {A : Type 0} (xs : List A) (x d : A) → get_or xs v d ≡ x → set xs (suc v - 1) x ≡ xs
      stays xs x d e = ap₂ (set xs) (one_less v) (sym e) ∙ set-get_or xs v d

-- ---- the call
module _ (r h : Roster) (s : ℕ) (ok : T (fits r)) (left : T (gone r s)) (e : leave_on r s ≡ accepted h) where
  -- who has left already makes no other roster by leaving again
  pub gone_roster : h ≡ r
  gone_roster = given (leave_parts r s h e) (λ L.
      L.is ∙ departed_same r ok L.place L.inside
      (at L.place L.number (λ k. get_or r.quotas_s k 0 ≡ 0)
      (eqb→eq (get_or r.quotas_s (s - 1) 0) 0 (and_l (eqb (get_or r.quotas_s (s - 1) 0) 0) (eqb (length (list_s r (s - 1))) 0) left)))
      (at L.place L.number (λ k. list_s r k ≡ [])
      (empty (list_s r (s - 1)) (eqb→eq (length (list_s r (s - 1))) 0
      (and_r (eqb (get_or r.quotas_s (s - 1) 0) 0) (eqb (length (list_s r (s - 1))) 0) left)))))
    where
      empty : (xs : List Entry) → length xs ≡ 0 → xs ≡ []
      empty [] q = refl
      empty (x ∷ xs) q = absurd (let z : ⊥ = omega arith in z)

      at : (v : ℕ) → s ≡ suc v → (P : ℕ → Type 0) → P (s - 1) → P v
      at v q P p = let w : s - 1 ≡ v = omega arith in subst P w p

-- ---- and only one who has left leaves the roster as it is
pub gone_unchanged : (r h : Roster) (s : ℕ) → T (fits r) → leave_on r s ≡ accepted h → h ≡ r → T (gone r s)
unfolding departed
gone_unchanged r h s ok e q = given (leave_parts r s h e) (λ L.
    let v = L.place in
    let w : s - 1 ≡ v = let n = L.number in omega arith in
    let is : r ≡ departed r (suc v) = sym q ∙ L.is in
    and_i (eqb (get_or r.quotas_s (s - 1) 0) 0) (eqb (length (list_s r (s - 1))) 0)
    (eq→eqb (get_or r.quotas_s (s - 1) 0) 0 (ap (λ k. get_or r.quotas_s k 0) w ∙ ap (λ z. get_or z.quotas_s v 0) is
    ∙ ap (λ k. get_or (set r.quotas_s k 0) v 0) (one_less v) ∙ get_or-set_same r.quotas_s v 0 0 L.inside))
    (eq→eqb (length (list_s r (s - 1))) 0 (ap (λ k. length (list_s r k)) w ∙ ap (λ z. length (list_s z v)) is
    ∙ ap (λ k. length (get_or (set r.lists_s k []) v [])) (one_less v)
    ∙ ap length (get_or-set_same r.lists_s v [] [] (let n = L.inside in given (fits_lists r ok).count_s (λ e. omega arith))))))
