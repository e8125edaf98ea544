-- The arrays after an offer show the model's offers after it. In each of the three cases the place in a list moves behind the pair that is turned away,
-- and the stand's entry and the two marks follow what it keeps.
use Rattle.std.specs.Prelude.{ℕ, ◌+◌, ◌≤◌, ◌<◌, ◌≡◌, refl, ◌≢◌, Bool, true, false, not, cond, ◌&&◌, ◌||◌, List, length, set, T, eqb, ltb, leb}
use Rattle.std.proofs.Common.{arith, sym, ap, ap₂, ◌∙◌, subst, ⊎_elim, length-set, get_or-set_same, get_or-set_other, T_not, ltb→lt, lt→ltb, eqb→eq, lt-ltb, le-ltb, le-leb}
use Rattle.std.proofs.Math.Decide.{ℕ_discrete, dec_lt}
use Rattle.std.proofs.Math.Logic.{by_cases}
use Rattle.std.proofs.Math.Dec.{not_T}
use Rattle.std.proofs.lemmas.Bool.{lt-leb}
use Rattle.lists.specs.Test.{given, bool_eq, and_l, and_r, and_i, or_l, or_r, or_case, T_true, T_false, true_t, eq→eqb, eqb_no, eqb_sym}
use Rattle.lists.specs.Search.{low_none, low_hit}
use Rattle.model.specs.Limits.{node_limit}
use Rattle.model.specs.Instance.{Instance}
use Rattle.model_files.specs.Offers.{Offers, kept_at, offered}
use Rattle.theory_instance.specs.Lawful.{Lawful}
use Rattle.theory_offers.specs.NextOffer.{In, Next}
use Rattle.theory_offers.specs.KeptOffers.{Kept}
use Rattle.arrays.specs.ArrayInstance.{at, flag, shown}
use Rattle.offers.specs.Standing as next
use Rattle.offers.specs.declared.Standing.{Standing}
use Rattle.offers.specs.Turned.{Sized, turn_of, turn_first, turn_instead, turn_away}

-- an entry after a store
here : (xs : List ℕ) (i j v : ℕ) → i < length xs → j ≡ i → at (set xs i v) j ≡ v
here xs i j v l e = ap (at (set xs i v)) e ∙ get_or-set_same xs i v 0 l

elsewhere : (xs : List ℕ) (i j v : ℕ) → j ≢ i → at (set xs i v) j ≡ at xs j
elsewhere xs i j v n = get_or-set_other xs i j v 0 n

mark_here : (xs : List Bool) (i j : ℕ) (v : Bool) → i < length xs → j ≡ i → flag (set xs i v) j ≡ v
mark_here xs i j v l e = ap (flag (set xs i v)) e ∙ get_or-set_same xs i v false l

mark_elsewhere : (xs : List Bool) (i j : ℕ) (v : Bool) → j ≢ i → flag (set xs i v) j ≡ flag xs j
mark_elsewhere xs i j v n = get_or-set_other xs i j v false n

or_none : (b : Bool) → b || false ≡ b
or_none true = refl
or_none false = refl

and_self : (b : Bool) → b && not b ≡ false
and_self true = refl
and_self false = refl

and_yes : (b : Bool) → b && true ≡ b
and_yes true = refl
and_yes false = refl

module _ (G : Instance) (L : Lawful G) (strict : (e : ℕ) → e < G.m → T (not (G.tied e)))
    (lowS : (e : ℕ) → e < G.m → G.sv e < node_limit) (lowT : (e : ℕ) → e < G.m → G.st e < node_limit)
    (o : Standing) (size : Sized o) (z : Offers) (S : next.Standing G o.next o.kept o.held z) (H : Kept G L strict z)
    (e : ℕ) (le : e < G.m) (N : Next G z e) where
  -- ---- the place behind a pair that is turned away
  module _ (y : ℕ) (ly : y < G.m) (not-away : T (z.away y) → ⊥)
      (first : (d : ℕ) → d < G.m → G.sv d ≡ G.sv y → G.rank_s d < G.rank_s y → T (z.away d)) where
    -- y is not away: its rank is at or behind the place
    behind : at o.next (G.sv y) ≤ G.rank_s y
    behind = by_cases (dec_lt (G.rank_s y) (at o.next (G.sv y)))
        (λ h. absurd (not-away (subst T (sym (S.away y ly)) (lt→ltb (G.rank_s y) (at o.next (G.sv y)) h)))) (λ h. omega arith)

    pushed : (x : ℕ) → x < G.m → z.away x || eqb x y ≡ ltb (G.rank_s x) (at (set o.next (G.sv y) (G.rank_s y + 1)) (G.sv x))
    pushed x lx = by_cases (ℕ_discrete (G.sv x) (G.sv y))
        (λ i. bool_eq (z.away x || eqb x y) (ltb (G.rank_s x) (G.rank_s y + 1))
        (λ t. lt→ltb (G.rank_s x) (G.rank_s y + 1) (⊎_elim
        (λ a. let h : G.rank_s x < at o.next (G.sv y) =
        subst (λ v. G.rank_s x < at o.next v) i (ltb→lt (G.rank_s x) (at o.next (G.sv x)) (subst T (S.away x lx) a)) in omega (arith, behind))
        (λ q. omega (arith, ap G.rank_s (eqb→eq x y q))) (or_case (z.away x) (eqb x y) t)))
        (λ t. let h = ltb→lt (G.rank_s x) (G.rank_s y + 1) t in by_cases (dec_lt (G.rank_s x) (G.rank_s y))
        (λ k. or_l (z.away x) (eqb x y) (first x lx i k))
        (λ k. or_r (z.away x) (eqb x y) (eq→eqb x y (L.at_s.strict x y lx ly i (omega arith) tt))))
        ∙ ap (λ n. ltb (G.rank_s x) n) (sym (here o.next (G.sv y) (G.sv x) (G.rank_s y + 1) (omega (arith, size.0, lowS y ly)) i)))
        (λ n. ap₂ ◌||◌ (S.away x lx) (eqb_no x y (λ q. n (ap G.sv q))) ∙ or_none (ltb (G.rank_s x) (at o.next (G.sv x)))
        ∙ ap (λ k. ltb (G.rank_s x) k) (sym (elsewhere o.next (G.sv y) (G.sv x) (G.rank_s y + 1) n)))

  -- ---- what the stand of e keeps
  abbrev k : ℕ
  k = at o.kept (G.st e)

  abbrev there : ℕ → Bool
  there d = z.kept d && eqb (G.st d) (G.st e)

  -- a pair that is kept there is that one
  is_k : (d : ℕ) → d < G.m → T (there d) → d ≡ k
  is_k d l t =
      let q = eqb→eq (G.st d) (G.st e) (and_r (z.kept d) (eqb (G.st d) (G.st e)) t) in
      let i = eqb→eq (at o.kept (G.st d)) d (subst T (S.keeps d l) (and_l (z.kept d) (eqb (G.st d) (G.st e)) t)) in
      sym i ∙ ap (at o.kept) q

  k_in : k < G.m → In G z k × (G.st k ≡ G.st e)
  k_in l =
      let q = S.stand (G.st e) (lowT e le) l in
      ((l, subst T (sym (S.keeps k l)) (eq→eqb (at o.kept (G.st k)) k (ap (at o.kept) q))), q)

  kept_some : k < G.m → kept_at G z e ≡ k
  kept_some l = given (k_in l) (λ (i, q). low_hit there k G.m
      (low_none there k (λ d h. T_false (not_T (there d) (λ t. let w = is_k d (omega arith) t in omega arith))))
      (T_true (and_i (z.kept k) (eqb (G.st k) (G.st e)) i.1 (eq→eqb (G.st k) (G.st e) q))) l)

  kept_none : G.m ≤ k → kept_at G z e ≡ G.m
  kept_none h = low_none there G.m (λ d l. T_false (not_T (there d) (λ t. let w = is_k d l t in omega arith)))

  -- ---- the stand keeps e now
  abbrev stored : List ℕ
  stored = set o.kept (G.st e) e

  stored_here : (t : ℕ) → t ≡ G.st e → at stored t ≡ e
  stored_here t q = here o.kept (G.st e) t e (omega (arith, size.1, lowT e le)) q

  stored_else : (t : ℕ) → t ≢ G.st e → at stored t ≡ at o.kept t
  stored_else t n = elsewhere o.kept (G.st e) t e n

  stored_stand : (t : ℕ) → t < node_limit → at stored t < G.m → G.st (at stored t) ≡ t
  stored_stand t w l = by_cases (ℕ_discrete t (G.st e))
      (λ q. ap G.st (stored_here t q) ∙ sym q)
      (λ n. ap G.st (stored_else t n) ∙ S.stand t w (subst (λ x. x < G.m) (stored_else t n) l))

  -- a pair elsewhere is kept as before
  stored_other : (x : ℕ) → x < G.m → G.st x ≢ G.st e → z.kept x ≡ eqb (at stored (G.st x)) x
  stored_other x l n = S.keeps x l ∙ ap (λ y. eqb y x) (sym (stored_else (G.st x) n))

  not_e : (x : ℕ) → G.st x ≢ G.st e → eqb x e ≡ false
  not_e x n = eqb_no x e (λ q. n (ap G.st q))

  stored_e : (x : ℕ) → G.st x ≡ G.st e → eqb x e ≡ eqb (at stored (G.st x)) x
  stored_e x q = eqb_sym x e ∙ ap (λ y. eqb y x) (sym (stored_here (G.st x) q))

  -- ---- the marks: of the surveyor of e, who has a stand now
  marked_e : (xs : List Bool) → length xs ≡ node_limit → flag (set xs (G.sv e) true) (G.sv e) ≡ true
  marked_e xs h = mark_here xs (G.sv e) (G.sv e) true (omega (arith, h, lowS e le)) refl

  -- ---- the stand had none
  first_stands : G.m ≤ k → next.Standing G o.next stored (set o.held (G.sv e) true) (record { away = z.away; kept = λ x. z.kept x || eqb x e })
  first_stands h = record {
    away = S.away;
    keeps = λ x l. by_cases (ℕ_discrete (G.st x) (G.st e))
        (λ q. ap (λ b. b || eqb x e) (S.keeps x l ∙ ap (λ t. eqb (at o.kept t) x) q ∙ eqb_no k x (λ i. absurd (let n : ⊥ = omega arith in n)))
        ∙ stored_e x q)
        (λ n. ap (λ b. z.kept x || b) (not_e x n) ∙ or_none (z.kept x) ∙ stored_other x l n);
    stand = stored_stand;
    has = λ s w t. by_cases (ℕ_discrete s (G.sv e))
        (λ q. (e, (le, or_r (z.kept e) (eqb e e) (eq→eqb e e refl)), sym q))
        (λ n. given (S.has s w (subst T (mark_elsewhere o.held (G.sv e) s true n) t)) (λ (d, i, j). (d, (i.0, or_l (z.kept d) (eqb d e) i.1), j)));
    free = λ s w t d (l, u) j. by_cases (ℕ_discrete s (G.sv e))
        (λ q. T_not (flag (set o.held (G.sv e) true) s) t (subst (λ v. T (flag (set o.held (G.sv e) true) v)) (sym q)
        (true_t (marked_e o.held size.2))))
        (λ n. ⊎_elim (λ i. S.free s w (subst (λ b. T (not b)) (mark_elsewhere o.held (G.sv e) s true n) t) d (l, i) j)
        (λ q. n (sym j ∙ ap G.sv (eqb→eq d e q))) (or_case (z.kept d) (eqb d e) u));
  }

  -- ---- it keeps e instead of k
  module _ (lk : k < G.m) where
    abbrev lost : List Bool
    lost = set o.held (G.sv k) false

    abbrev now : List Bool
    now = set lost (G.sv e) true

    lost_size : length lost ≡ node_limit
    lost_size = length-set o.held (G.sv k) false ∙ size.2

    -- the two surveyors differ
    apart : G.sv k ≢ G.sv e
    apart q = N.alone k (k_in lk).0 q

    now_k : flag now (G.sv k) ≡ false
    now_k = mark_elsewhere lost (G.sv e) (G.sv k) true apart
        ∙ mark_here o.held (G.sv k) (G.sv k) false (omega (arith, size.2, lowS k lk)) refl

    now_else : (s : ℕ) → s ≢ G.sv e → s ≢ G.sv k → flag now s ≡ flag o.held s
    now_else s n m = mark_elsewhere lost (G.sv e) s true n ∙ mark_elsewhere o.held (G.sv k) s false m

    instead_stands : next.Standing G (set o.next (G.sv k) (G.rank_s k + 1)) stored now
        (record { away = λ x. z.away x || eqb x k; kept = λ x. (z.kept x && not (eqb x k)) || eqb x e })
    instead_stands = record {
      away = pushed k lk (λ a. H.apart k a (k_in lk).0.1) (λ d l i h. H.ahead k d (k_in lk).0 l i h);
      keeps = λ x l. by_cases (ℕ_discrete (G.st x) (G.st e))
          (λ q. ap (λ b. b || eqb x e) (ap (λ b. b && not (eqb x k)) (S.keeps x l ∙ ap (λ t. eqb (at o.kept t) x) q ∙ eqb_sym k x) ∙ and_self (eqb x k))
          ∙ stored_e x q)
          (λ n. ap₂ ◌||◌ (ap (λ b. z.kept x && not b) (eqb_no x k (λ q. n (ap G.st q ∙ (k_in lk).1))) ∙ and_yes (z.kept x)) (not_e x n)
          ∙ or_none (z.kept x) ∙ stored_other x l n);
      stand = stored_stand;
      has = λ s w t. by_cases (ℕ_discrete s (G.sv e))
          (λ q. (e, (le, or_r (z.kept e && not (eqb e k)) (eqb e e) (eq→eqb e e refl)), sym q))
          (λ n. by_cases (ℕ_discrete s (G.sv k))
          (λ q. absurd (subst T (ap (flag now) q ∙ now_k) t))
          (λ m. given (S.has s w (subst T (now_else s n m) t)) (λ (d, i, j). (
            d,
            (
              i.0,
              or_l (z.kept d && not (eqb d k)) (eqb d e)
                  (and_i (z.kept d) (not (eqb d k)) i.1 (not_T (eqb d k) (λ q. m (sym j ∙ ap G.sv (eqb→eq d k q))))),
            ),
            j,
          ))));
      free = λ s w t d (l, u) j. by_cases (ℕ_discrete s (G.sv e))
          (λ q. T_not (flag now s) t (subst (λ v. T (flag now v)) (sym q) (true_t (marked_e lost lost_size))))
          (λ n. ⊎_elim
          (λ i. let a = and_l (z.kept d) (not (eqb d k)) i in let b = and_r (z.kept d) (not (eqb d k)) i in by_cases (ℕ_discrete s (G.sv k))
          (λ q. T_not (eqb d k) b (eq→eqb d k (H.one_s d k (l, a) (k_in lk).0 (j ∙ q))))
          (λ m. S.free s w (subst (λ b. T (not b)) (now_else s n m) t) d (l, a) j))
          (λ q. n (sym j ∙ ap G.sv (eqb→eq d e q))) (or_case (z.kept d && not (eqb d k)) (eqb d e) u));
    }

  -- ---- it turns e away
  away_stands : next.Standing G (set o.next (G.sv e) (G.rank_s e + 1)) o.kept o.held (record { away = λ x. z.away x || eqb x e; kept = z.kept })
  away_stands = record { away = pushed e le N.unasked N.first; keeps = S.keeps; stand = S.stand; has = S.has; free = S.free }

-- ---- the model's offer, by what the stand keeps
module _ (G : Instance) (z : Offers) (e : ℕ) where
  abbrev with : Offers
  with = record { away = z.away; kept = λ x. z.kept x || eqb x e }

  abbrev instead : ℕ → Offers
  instead d = record { away = λ x. z.away x || eqb x d; kept = λ x. (z.kept x && not (eqb x d)) || eqb x e }

  abbrev without : Offers
  without = record { away = λ x. z.away x || eqb x e; kept = z.kept }

  abbrev offered_by : ℕ → Offers
  offered_by d = cond (leb G.m d) with (cond (ltb (G.rank_t e) (G.rank_t d)) (instead d) without)

  offered_first : kept_at G z e ≡ G.m → with ≡ offered G z e
  offered_first q = sym (ap offered_by q
      ∙ ap (λ b. cond b with (cond (ltb (G.rank_t e) (G.rank_t G.m)) (instead G.m) without)) (le-leb G.m G.m (omega arith)))

  module _ (d : ℕ) (q : kept_at G z e ≡ d) (l : d < G.m) where
    offered_some : offered G z e ≡ cond (ltb (G.rank_t e) (G.rank_t d)) (instead d) without
    offered_some = ap offered_by q ∙ ap (λ b. cond b with (cond (ltb (G.rank_t e) (G.rank_t d)) (instead d) without)) (lt-leb G.m d l)

    offered_instead : G.rank_t e < G.rank_t d → instead d ≡ offered G z e
    offered_instead h = sym (offered_some ∙ ap (λ b. cond b (instead d) without) (lt-ltb (G.rank_t e) (G.rank_t d) h))

    offered_away : G.rank_t d ≤ G.rank_t e → without ≡ offered G z e
    offered_away h = sym (offered_some ∙ ap (λ b. cond b (instead d) without) (le-ltb (G.rank_t e) (G.rank_t d) h))

-- ---- the arrays of an instance
module _ (m ns nt : ℕ) (sv st rs rt sh : List ℕ) (tied : List Bool) (qs qt : List ℕ) where
  abbrev H : Instance
  H = shown m ns nt sv st rs rt sh tied qs qt

  abbrev Shows : Standing → Offers → Type 0
  Shows o z = next.Standing H o.next o.kept o.held z

  both : {p q : Standing} {y z : Offers} → p ≡ q → y ≡ z → Shows p y → Shows q z
  both {p} {q} {y} {z} a b s = subst (λ o. Shows o z) a (subst (λ x. Shows p x) b s)

  pub turn_stands : (L : Lawful H) (strict : (e : ℕ) → e < m → T (not (flag tied e))) → ((e : ℕ) → e < m → at sv e < node_limit)
      → ((e : ℕ) → e < m → at st e < node_limit) → (o : Standing) → Sized o → (z : Offers) → Shows o z → Kept H L strict z
      → (e : ℕ) → e < m → Next H z e → Shows (turn_of m sv st rs rt o e) (offered H z e)
  turn_stands L strict lowS lowT o size z S K e le N =
      let d = at o.kept (at st e) in by_cases (dec_lt d m)
      (λ l. let q = kept_some H L strict lowS lowT o size z S K e le N l in by_cases (dec_lt (at rt e) (at rt d))
      (λ h. both (turn_instead m sv st rs rt o e l h) (offered_instead H z e d q l h) (instead_stands H L strict lowS lowT o size z S K e le N l))
      (λ h. both (turn_away m sv st rs rt o e l (omega arith)) (offered_away H z e d q l (omega arith)) (away_stands H L strict lowS lowT o size z S K e le N)))
      (λ n. both (turn_first m sv st rs rt o e (omega arith)) (offered_first H z e (kept_none H L strict lowS lowT o size z S K e le N (omega arith)))
      (first_stands H L strict lowS lowT o size z S K e le N (omega arith)))
