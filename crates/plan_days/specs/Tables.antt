-- Tables by node and day: where an entry is on a day at its end, its number, counted from 1; 0 where the day is free. A table of all entries
-- tells which days are taken; with one entry left out, what that one meets where it settles.
use Rattle.std.specs.Prelude.{ℕ, zero, suc, ◌+◌, ◌*◌, ◌<◌, ◌≡◌, refl, ◌≢◌, ◌&&◌, List, length, set, replicate, T}
use Rattle.std.proofs.Common.{arith, sym, ap, ◌∙◌, subst, length-set, get_or-set_same, get_or-set_other, T_not, eqb→eq}
use Rattle.std.proofs.Math.Decide.{ℕ_discrete}
use Rattle.std.proofs.Math.Logic.{by_cases}
use Rattle.std.proofs.Math.Bool.{not}
use Rattle.std.proofs.lemmas.List.{length-replicate}
use Rattle.std.proofs.Math.Dec.{not_T, eqb}
use Rattle.lists.specs.Test.{bool_eq, and_l, and_r, and_i, eq→eqb}
use Rattle.lists.specs.Sum.{up_to, up_to_<, up_to_∈}
use Rattle.lists.specs.Keep.{any_∈, none_∈}
use Rattle.lists.specs.Search.{low, low_is, low_cong}
use Rattle.model.specs.Limits.{last_day}
use Rattle.arrays.specs.ArrayInstance.{at}
use Rattle.arrays.specs.Tally.{zeros}
use Rattle.theory_days.specs.Spread.{taken, free_day}
use Rattle.plan_days.specs.Chase.{meets, Small}

-- a node has sixteen places in a table, more than there are days
abbrev pub place : ℕ → ℕ → ℕ
place v d = 16 * v + d

abbrev pub place_of : (end ds : List ℕ) → ℕ → ℕ
place_of end ds j = place (at end j) (at ds j)

apart : (v w d e : ℕ) → d < 16 → e < 16 → place v d ≡ place w e → (v ≡ w) × (d ≡ e)
apart v w d e h k q = (omega arith, omega arith)

-- all of n entries, and nothing else
pub record Held (n : ℕ) (end ds table : List ℕ) : Type 0 where
  pub size : length table ≡ 512
  pub has : (j : ℕ) → j < n → at table (place_of end ds j) ≡ suc j
  pub only : (x j : ℕ) → at table x ≡ suc j → (j < n) × (place_of end ds j ≡ x)

-- all of them but cur, and nothing else; it may be told still on another day, on which no entry is at its end
pub record Without (n : ℕ) (end ds table : List ℕ) (cur other : ℕ) : Type 0 where
  pub size : length table ≡ 512
  pub has : (j : ℕ) → j < n → j ≢ cur → at table (place_of end ds j) ≡ suc j
  pub only : (x j : ℕ) → x ≢ place (at end cur) other → at table x ≡ suc j → (j < n) × (j ≢ cur) × (place_of end ds j ≡ x)
  pub left : (j : ℕ) → at table (place (at end cur) other) ≡ suc j → j ≡ cur

unsuc : {i j : ℕ} → suc i ≡ suc j → i ≡ j
unsuc e = omega arith

pub none_held : (end ds : List ℕ) → Held 0 end ds (replicate 512 0)
none_held end ds = record {
  size = length-replicate {A = ℕ} 512 0;
  has = λ j h. absurd (omega arith);
  only = λ x j e. absurd (omega (arith, zeros 512 x, e));
}

-- ---- which days are taken
module _ (n : ℕ) (end ds table : List ℕ) (H : Held n end ds table) (small : Small last_day ds) where
  pub free_told : (v d : ℕ) → d < 16 → eqb (at table (place v d)) 0 ≡ not (taken (at end) (at ds) n v d)
  free_told v d h = bool_eq (eqb (at table (place v d)) 0) (not (taken (at end) (at ds) n v d))
      (λ t. not_T (taken (at end) (at ds) n v d) (λ s.
      let (j, m, k) = any_∈ (λ j. eqb (at end j) v && eqb (at ds j) d) (up_to n) s in
      absurd (omega (arith, eqb→eq (at table (place v d)) 0 t, H.has j (up_to_< n m), ap (at table) (spot j k)))))
      (λ t. eq→eqb (at table (place v d)) 0 (told (at table (place v d)) refl t))
    where
      spot : (j : ℕ) → T (eqb (at end j) v && eqb (at ds j) d) → place_of end ds j ≡ place v d
      spot j k = omega (
        arith,
        eqb→eq (at end j) v (and_l (eqb (at end j) v) (eqb (at ds j) d) k),
        eqb→eq (at ds j) d (and_r (eqb (at end j) v) (eqb
            (at ds j) d) k),
      )

      told : (z : ℕ) → at table (place v d) ≡ z → T (not (taken (at end) (at ds) n v d)) → z ≡ 0
      told zero q t = refl
      told (suc j) q t =
          let (l, e) = H.only (place v d) j q in
          let (f, g) = apart (at end j) v (at ds j) d (omega (arith, small j)) h e in
          absurd (T_not (eqb (at end j) v && eqb (at ds j) d)
          (none_∈ (λ j. eqb (at end j) v && eqb (at ds j) d) (up_to n) t j (up_to_∈ n j l))
          (and_i (eqb (at end j) v) (eqb (at ds j) d) (eq→eqb (at end j) v f) (eq→eqb (at ds j) d g)))

  pub first_free : (v : ℕ) → low (λ d. eqb (at table (place v d)) 0) last_day ≡ free_day (at end) (at ds) n v last_day
  unfolding free_day
  first_free v = low_cong (λ d. eqb (at table (place v d)) 0) (λ d. not (taken (at end) (at ds) n v d)) last_day (λ d h. free_told v d (omega arith))

-- ---- one entry more
module _ (k : ℕ) (end ds table : List ℕ) (H : Held k end ds table) where
  -- on a day that is free at its end
  pub held_more : (d : ℕ) → k < length ds → place (at end k) d < 512 → at table (place (at end k) d) ≡ 0
      → Held (k + 1) end (set ds k d) (set table (place (at end k) d) (k + 1))
  held_more d l h free = record { size = length-set table p (k + 1) ∙ H.size; has = has; only = only }
    where
      p : ℕ
      p = place (at end k) d

      own : at (set ds k d) k ≡ d
      own = get_or-set_same ds k d 0 l

      rest : (j : ℕ) → j ≢ k → at (set ds k d) j ≡ at ds j
      rest j n = get_or-set_other ds k j d 0 n

      told : at (set table p (k + 1)) p ≡ k + 1
      told = get_or-set_same table p (k + 1) 0 (omega (arith, H.size))

      kept : (x : ℕ) → x ≢ p → at (set table p (k + 1)) x ≡ at table x
      kept x n = get_or-set_other table p x (k + 1) 0 n

      has : (j : ℕ) → j < k + 1 → at (set table p (k + 1)) (place_of end (set ds k d) j) ≡ suc j
      has j lj = by_cases (ℕ_discrete j k)
          (λ q. ap (λ i. at (set table p (k + 1)) (place_of end (set ds k d) i)) q ∙ ap (λ z. at (set table p (k + 1)) (place (at end k) z)) own ∙ told
          ∙ up q)
          (λ n. let s = H.has j (omega arith) in
          ap (λ z. at (set table p (k + 1)) (place (at end j) z)) (rest j n)
          ∙ kept (place_of end ds j) (λ q. absurd (omega (arith, s, free, ap (at table) q))) ∙ s)
        where
          up : j ≡ k → k + 1 ≡ suc j
          up q = omega arith

      only : (x j : ℕ) → at (set table p (k + 1)) x ≡ suc j → (j < k + 1) × (place_of end (set ds k d) j ≡ x)
      only x j e = by_cases (ℕ_discrete x p)
          (λ q. let s : j ≡ k = omega (arith, e, told, ap (at (set table p (k + 1))) q) in (
            omega arith,
            ap (λ i. place_of end (set ds k d) i) s ∙ ap (place (at end k)) own ∙ sym q,
          ))
          (λ n. let (l, r) = H.only x j (sym (kept x n) ∙ e) in (omega arith, ap (place (at end j)) (rest j (omega arith)) ∙ r))

  -- not yet told, on any day a; another day b is free at its end
  pub held_begins : (a b : ℕ) → at table (place (at end k) b) ≡ 0 → Without (k + 1) end (set ds k a) table k b
  held_begins a b free = record {
    size = H.size;
    has = λ j l n. ap (λ z. at table (place (at end j) z)) (rest j n) ∙ H.has j (omega arith);
    only = λ x j n e. let (l, r) = H.only x j e in let d : j ≢ k = omega arith in (omega arith, d, ap (place (at end j)) (rest j d) ∙ r);
    left = λ j e. absurd (omega (arith, e, free));
  }
    where
      rest : (j : ℕ) → j ≢ k → at (set ds k a) j ≡ at ds j
      rest j n = get_or-set_other ds k j a 0 n

-- an entry takes another day, and the table does not tell it yet
pub held_leaves : (n : ℕ) (end ds table : List ℕ) → Held n end ds table → (j to other : ℕ) → j < n → at ds j ≡ to
    → Without n end (set ds j other) table j to
held_leaves n end ds table H j to other l own = record {
  size = H.size;
  has = λ i h d. ap (λ z. at table (place (at end i) z)) (rest i d) ∙ H.has i h;
  only = λ x i d e.
      let (h, r) = H.only x i e in
      let g : i ≢ j = (λ q. d (sym r ∙ ap (place_of end ds) q ∙ ap (place (at end j)) own)) in
      (h, g, ap (place (at end i)) (rest i g) ∙ r);
  left = λ i e. unsuc (sym e ∙ sym (ap (λ z. at table (place (at end j) z)) own) ∙ H.has j l);
}
  where
    rest : (i : ℕ) → i ≢ j → at (set ds j other) i ≡ at ds i
    rest i d = get_or-set_other ds j i other 0 d

-- ---- an entry settles on its day; whoever was on it at that end goes to the other day
abbrev pub settled : (table : List ℕ) (v to other cur : ℕ) → List ℕ
settled table v to other cur = set (set table (place v to) (cur + 1)) (place v other) (at table (place v to))

module _ (n : ℕ) (end ds table : List ℕ) (cur to other : ℕ) (W : Without n end ds table cur other) (own : at ds cur ≡ to) (in_n_law : cur < n)
    (differ : to ≢ other) (node : at end cur < 32) (to_in : to < 16) (other-in : other < 16) (small : Small last_day ds) where
  abbrev p : ℕ
  p = place (at end cur) to

  abbrev q : ℕ
  q = place (at end cur) other

  abbrev after : List ℕ
  after = settled table (at end cur) to other cur

  full : length after ≡ 512
  full = length-set (set table p (cur + 1)) q (at table p) ∙ length-set table p (cur + 1) ∙ W.size

  p_q : p ≢ q
  p_q e = differ (apart (at end cur) (at end cur) to other to_in other-in e).1

  at_q : at after q ≡ at table p
  at_q = get_or-set_same (set table p (cur + 1)) q (at table p) 0 (omega (arith, length-set table p (cur + 1), W.size))

  at_p : at after p ≡ cur + 1
  at_p = get_or-set_other (set table p (cur + 1)) q p (at table p) 0 p_q ∙ get_or-set_same table p (cur + 1) 0 (omega (arith, W.size))

  elsewhere : (x : ℕ) → x ≢ p → x ≢ q → at after x ≡ at table x
  elsewhere x np nq = get_or-set_other (set table p (cur + 1)) q x (at table p) 0 nq ∙ get_or-set_other table p x (cur + 1) 0 np

  -- who meets cur is told where it settles
  met : (i : ℕ) → i < n → T (meets end ds cur i) → at table p ≡ suc i
  met i l t =
      let r = and_r (not (eqb i cur)) (eqb (at end i) (at end cur) && eqb (at ds i) (at ds cur)) t in
      let d : i ≢ cur = (λ e. T_not (eqb i cur) (and_l (not (eqb i cur)) (eqb (at end i) (at end cur) && eqb (at ds i) (at ds cur)) t) (eq→eqb i cur e)) in
      let e : at end i ≡ at end cur = eqb→eq (at end i) (at end cur) (and_l (eqb (at end i) (at end cur)) (eqb (at ds i) (at ds cur)) r) in
      let f : at ds i ≡ at ds cur = eqb→eq (at ds i) (at ds cur) (and_r (eqb (at end i) (at end cur)) (eqb (at ds i) (at ds cur)) r) in
      let g : p ≡ place_of end ds i = omega (arith, e, f, own) in
      ap (at table) g ∙ W.has i l d

  module _ (none : at table p ≡ 0) where
    pub nobody : low (meets end ds cur) n ≡ n
    nobody = by_cases (ℕ_discrete (low (meets end ds cur) n) n) (λ e. e) (λ d.
        let l : low (meets end ds cur) n < n = omega (arith, (low_is (meets end ds cur) n).0) in
        absurd (omega (arith, none, met (low (meets end ds cur) n) l ((low_is (meets end ds cur) n).2 l))))

    pub settled_alone : Held n end ds after
    settled_alone = record { size = full; has = has; only = only }
      where
        has : (j : ℕ) → j < n → at after (place_of end ds j) ≡ suc j
        has j l = by_cases (ℕ_discrete j cur)
            (λ e. ap (λ i. at after (place_of end ds i)) e ∙ ap (λ z. at after (place (at end cur) z)) own ∙ at_p ∙ up e)
            (λ d. let s = W.has j l d in
            elsewhere (place_of end ds j) (λ e. absurd (omega (arith, s, none, ap (at table) e))) (λ e. d (W.left j (sym (ap (at table) e) ∙ s))) ∙ s)
          where
            up : j ≡ cur → cur + 1 ≡ suc j
            up e = omega arith

        only : (x j : ℕ) → at after x ≡ suc j → (j < n) × (place_of end ds j ≡ x)
        only x j e = by_cases (ℕ_discrete x q)
            (λ s. absurd (omega (arith, e, ap (at after) s, at_q, none)))
            (λ nq. by_cases (ℕ_discrete x p)
            (λ s. let r : j ≡ cur = omega (arith, e, ap (at after) s, at_p) in (
              omega arith,
              ap (place_of end ds) r ∙ ap (place (at end cur)) own ∙ sym s,
            ))
            (λ np. let (l, d, r) = W.only x j nq (sym (elsewhere x np nq) ∙ e) in (l, r)))

  module _ (j₀ : ℕ) (some : at table p ≡ suc j₀) where
    who : (j₀ < n) × (j₀ ≢ cur) × (place_of end ds j₀ ≡ p)
    who = W.only p j₀ p_q some

    pub who_in : j₀ < n
    who_in = who.0

    pub who_other : j₀ ≢ cur
    who_other = who.1

    spot : (at end j₀ ≡ at end cur) × (at ds j₀ ≡ to)
    spot = apart (at end j₀) (at end cur) (at ds j₀) to (omega (arith, small j₀)) to_in who.2

    pub who_end : at end j₀ ≡ at end cur
    who_end = spot.0

    pub who_day : at ds j₀ ≡ to
    who_day = spot.1

    pub somebody : low (meets end ds cur) n ≡ j₀
    somebody = by_cases (ℕ_discrete (low (meets end ds cur) n) n)
        (λ e. absurd (T_not (meets end ds cur j₀) ((low_is (meets end ds cur) n).1 j₀ (omega (arith, e, who_in))) meets_j))
        (λ d. let l : low (meets end ds cur) n < n = omega (arith, (low_is (meets end ds cur) n).0) in
        unsuc (sym (met (low (meets end ds cur) n) l ((low_is (meets end ds cur) n).2 l)) ∙ some))
      where
        meets_j : T (meets end ds cur j₀)
        meets_j = and_i (not (eqb j₀ cur)) (eqb (at end j₀) (at end cur) && eqb (at ds j₀) (at ds cur))
            (not_T (eqb j₀ cur) (λ t. who_other (eqb→eq j₀ cur t)))
            (and_i (eqb (at end j₀) (at end cur)) (eqb (at ds j₀) (at ds cur)) (eq→eqb (at end j₀) (at end cur) who_end)
            (eq→eqb (at ds j₀) (at ds cur) (who_day ∙ sym own)))

    pub settled_both : j₀ < length ds → Held n end (set ds j₀ other) after
    settled_both in-ds = record { size = full; has = has; only = only }
      where
        ds₁ : List ℕ
        ds₁ = set ds j₀ other

        moved : place_of end ds₁ j₀ ≡ q
        moved = ap (place (at end j₀)) (get_or-set_same ds j₀ other 0 in-ds) ∙ ap (λ v. place v other) who_end

        rest : (j : ℕ) → j ≢ j₀ → place_of end ds₁ j ≡ place_of end ds j
        rest j d = ap (place (at end j)) (get_or-set_other ds j₀ j other 0 d)

        mine : place_of end ds₁ cur ≡ p
        mine = rest cur (λ e. who_other (sym e)) ∙ ap (place (at end cur)) own

        has : (j : ℕ) → j < n → at after (place_of end ds₁ j) ≡ suc j
        has j l = by_cases (ℕ_discrete j cur)
            (λ e. ap (λ i. at after (place_of end ds₁ i)) e ∙ ap (at after) mine ∙ at_p ∙ up e)
            (λ d. by_cases (ℕ_discrete j j₀)
            (λ e. ap (λ i. at after (place_of end ds₁ i)) e ∙ ap (at after) moved ∙ at_q ∙ some ∙ ap suc (sym e))
            (λ d₀. let s = W.has j l d in
            ap (at after) (rest j d₀)
            ∙ elsewhere (place_of end ds j) (λ e. d₀ (unsuc (sym s ∙ ap (at table) e ∙ some))) (λ e. d (W.left j (sym (ap (at table) e) ∙ s))) ∙ s))
          where
            up : j ≡ cur → cur + 1 ≡ suc j
            up e = omega arith

        only : (x j : ℕ) → at after x ≡ suc j → (j < n) × (place_of end ds₁ j ≡ x)
        only x j e = by_cases (ℕ_discrete x q)
            (λ s. let r : j ≡ j₀ = unsuc (sym e ∙ ap (at after) s ∙ at_q ∙ some) in (
              subst (λ i. i < n) (sym r) who_in,
              ap (place_of end ds₁) r ∙ moved ∙ sym s,
            ))
            (λ nq. by_cases (ℕ_discrete x p)
            (λ s. let r : j ≡ cur = omega (arith, e, ap (at after) s, at_p) in (
              omega arith,
              ap (place_of end ds₁) r ∙ mine ∙ sym s,
            ))
            (λ np. let (l, d, r) = W.only x j nq (sym (elsewhere x np nq) ∙ e) in
            (l, rest j (λ s. np (sym r ∙ ap (place_of end ds) s ∙ who.2)) ∙ r)))
