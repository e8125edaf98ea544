-- Refusals 10, 11 and 12 in the documents' words, on pairs of numbers with their shift: a pair is not in the roster; it is not above the pair
-- before it, by surveyor, stand, shift; with it a node has more pairs than its quota. As the edges of a roster are numbered in that order, the
-- model's check of a plan's pair, by edge numbers, gives the same refusal.
use Rattle.std.specs.Prelude.{ℕ, suc, ◌-◌, ◌≤◌, ◌<◌, ◌≡◌, refl, Bool, true, not, cond, ◌||◌, List, [], ◌∷◌, T, eqb, leb, ltb}
use Rattle.std.proofs.Common.{arith, sym, ap, ap₂, ◌∙◌, subst, inl, inr, ltb→lt, leb→le, le→leb, lt→ltb, T_not, lt-ltb, le-ltb, le-leb}
use Rattle.std.proofs.Math.Decide.{dec_lt}
use Rattle.std.proofs.Math.Logic.{⊎_elim, ⊎_map, by_cases}
use Rattle.std.proofs.Math.Dec.{not_T, eqb-suc-suc}
use Rattle.std.proofs.lemmas.Bool.{lt-leb}
use Rattle.lists.specs.Test.{given, bool_eq, T_true, T_false, bit}
use Rattle.lists.specs.Sum.{sum, sum_append, up_to, up_to_∈, up_to_<}
use Rattle.lists.specs.Keep.{any?, any_or, All}
use Rattle.lists.specs.Search.{low_is}
use Rattle.model.specs.Roster.{Roster}
use Rattle.model.specs.Edges.{Edge, edges_of, edge_at, instance_of}
use Rattle.model.specs.Instance.{Instance, Side, surveyors, stands}
use Rattle.model.specs.PlanFile.{Named, name_of, same_name, edge_of_pair, full, Pairs, pair_check, with_pair}
use Rattle.theory_files.specs.Order.{First, first, first→, →first}
use Rattle.theory_files.specs.PlanPairs.{no_pairs}
use Rattle.theory_files.specs.PlanFiles.{found_parts, found_is}
use Rattle.theory_files.specs.Ascending.{Before, edges_ascend, later}

-- ---- "ascending means by surveyor, stand, shift"
abbrev pub Lower : Named → Named → Type 0
Lower p q = First p.surveyor q.surveyor (First p.stand q.stand (p.shift < q.shift))

-- pair p is above pair q
abbrev pub above : (p q : Named) → Bool
above p q = first q.surveyor p.surveyor (first q.stand p.stand (ltb q.shift p.shift))

above→ : (p q : Named) → T (above p q) → Lower q p
above→ p q t = ⊎_map (λ l. l)
    (λ (e, u). (e, ⊎_map (λ l. l) (λ (d, v). (d, ltb→lt q.shift p.shift v)) (first→ q.stand p.stand (ltb q.shift p.shift) u)))
    (first→ q.surveyor p.surveyor (first q.stand p.stand (ltb q.shift p.shift)) t)

→above : (p q : Named) → Lower q p → T (above p q)
→above p q l = →first q.surveyor p.surveyor (first q.stand p.stand (ltb q.shift p.shift)) (⊎_map (λ l. l)
    (λ (e, u). (e, →first q.stand p.stand (ltb q.shift p.shift) (⊎_map (λ l. l) (λ (d, v). (d, lt→ltb q.shift p.shift v)) u))) l)

not_both : (p q : Named) → Lower p q → Lower q p → ⊥
not_both p q (inl k) (inl l) = omega arith
not_both p q (inl k) (inr (d, l)) = omega arith
not_both p q (inr (e, k)) (inl l) = omega arith
not_both p q (inr (e, inl k)) (inr (d, inl l)) = omega arith
not_both p q (inr (e, inl k)) (inr (d, inr (c, l))) = omega arith
not_both p q (inr (e, inr (b, k))) (inr (d, inl l)) = omega arith
not_both p q (inr (e, inr (b, k))) (inr (d, inr (c, l))) = omega arith

-- the edges are numbered in this order
abbrev pub Numbered : Instance → Type 0
Numbered G = (d e : ℕ) → d < e → e < G.m → Lower (name_of G d) (name_of G e)

roster_numbered : (r : Roster) → Numbered (instance_of r)
unfolding instance_of
roster_numbered r d e l k = named (edge_at (edges_of r) d) (edge_at (edges_of r) e) (later (edges_of r) (edges_ascend r) d e l k)
  where
    name : Edge → Named
    name x = record { surveyor = suc x.surveyor; stand = suc x.stand; shift = x.shift }

    named : (x y : Edge) → Before x y → Lower (name x) (name y)
    named x y (inl l) = inl (omega arith)
    named x y (inr (e, inl l)) = inr (ap suc e, inl (omega arith))
    named x y (inr (e, inr (d, l))) = inr (ap suc e, inr (ap suc d, l))

-- ---- the documents' words
-- it is above the pair before it; the pairs before it are given last first
abbrev pub above_last : List Named → Named → Bool
above_last [] p = true
above_last (q ∷ qs) p = above p q

module _ (G : Instance) where
  -- the edge e is the pair p
  abbrev pub names : Named → ℕ → Bool
  names p e = same_name (name_of G e) p

  abbrev pub in_roster : Named → Bool
  in_roster p = any? (names p) (up_to G.m)

  -- with p, its surveyor, its stand has more pairs than its quota; numbers start at 1
  abbrev pub past_s : List Named → Named → Bool
  past_s qs p = ltb (G.quota_s (p.surveyor - 1)) (suc (sum (λ q. bit (eqb q.surveyor p.surveyor)) qs))

  abbrev pub past_t : List Named → Named → Bool
  past_t qs p = ltb (G.quota_t (p.stand - 1)) (suc (sum (λ q. bit (eqb q.stand p.stand)) qs))

  -- the refusal of p behind the pairs qs, 0 for none
  abbrev pub refusal_of : List Named → Named → ℕ
  refusal_of qs p = cond (not (in_roster p)) 10 (cond (not (above_last qs p)) 11 (cond (past_s qs p || past_t qs p) 12 0))

  -- ---- the model's check
  -- what the model keeps of the pairs before
  abbrev pub after : List Named → Pairs
  after [] = no_pairs
  after (q ∷ qs) = with_pair G (after qs) q

  abbrev Known : List Named → Type 0
  Known qs = All (λ q. T (in_roster q)) qs

  -- a pair is in the roster exactly if an edge is found
  found_in_law : (p : Named) → edge_of_pair G p < G.m → T (in_roster p)
  unfolding edge_of_pair
  found_in_law p h = ⊎_elim (λ y. y.0)
      (λ n. absurd (T_not (names p (edge_of_pair G p)) (n.1 (edge_of_pair G p) (up_to_∈ G.m (edge_of_pair G p) h)) ((low_is (names p) G.m).2 h)))
      (any_or (names p) (up_to G.m))

  in_found : (p : Named) → T (in_roster p) → edge_of_pair G p < G.m
  unfolding edge_of_pair
  in_found p t = by_cases (dec_lt (edge_of_pair G p) G.m) (λ h. h) (λ n. ⊎_elim
      (λ (s, (d, m, y)). absurd (T_not (names p d) ((low_is (names p) G.m).1 d (given (up_to_< G.m m) (λ l. omega arith))) y))
      (λ y. absurd (T_not (in_roster p) y.0 t))
      (any_or (names p) (up_to G.m)))

  -- ---- 11
  module _ (N : Numbered G) (p q : Named) (hp : edge_of_pair G p < G.m) (hq : edge_of_pair G q < G.m) where
    abbrev e : ℕ
    e = edge_of_pair G p

    abbrev d : ℕ
    d = edge_of_pair G q

    is_above : d < e → T (above p q)
    is_above l = →above p q (subst (λ x. Lower x p) (found_is G q hq) (subst (Lower (name_of G d)) (found_is G p hp) (N d e l hp)))

    not_above : e ≤ d → T (above p q) → ⊥
    not_above l t = by_cases (dec_lt e d)
        (λ k. not_both p q (subst (λ x. Lower x q) (found_is G p hp) (subst (Lower (name_of G e)) (found_is G q hq) (N e d k hq))) low)
        (λ k. same (omega arith))
      where
        low : Lower q p
        low = above→ p q t

        same : d ≡ e → ⊥
        same i = given (subst (λ x. Lower x p) (sym (found_is G q hq) ∙ ap (name_of G) i ∙ found_is G p hp) low) (λ k. not_both p p k k)

  ascends_is : Numbered G → (qs : List Named) → Known qs → (p : Named) → edge_of_pair G p < G.m → ltb (edge_of_pair G p) (after qs).from ≡ not (above_last qs p)
  ascends_is N [] k p h = le-ltb (edge_of_pair G p) 0 (omega arith)
  ascends_is N (q ∷ qs) k p h =
      let hq = in_found q k.0 in
      let e = edge_of_pair G p in
      let d = edge_of_pair G q in
      by_cases (dec_lt d e)
      (λ l. le-ltb e (suc d) (omega arith) ∙ sym (ap not (T_true {b = above p q} (is_above N p q h hq l))))
      (λ n. let l : e ≤ d = omega arith in lt-ltb e (suc d) (omega arith) ∙ sym (ap not (T_false {b = above p q} (not_T (above p q) (not_above N p q h hq l)))))

  -- ---- 12
  module _ (K : Side) (number : Named → ℕ) (is : (q : Named) → edge_of_pair G q < G.m → suc (K.end (edge_of_pair G q)) ≡ number q) where
    seen_is : (qs : List Named) → Known qs → (v : ℕ) → sum (λ d. bit (eqb (K.end d) v)) (after qs).seen ≡ sum (λ q. bit (eqb (number q) (suc v))) qs
    seen_is [] k v = refl
    seen_is (q ∷ qs) k v = omega (
      arith,
      sum_append (λ d. bit (eqb (K.end d) v)) (after qs).seen (edge_of_pair G q ∷ []),
      seen_is qs k.1 v,
      ap bit (sym (eqb-suc-suc (K.end (edge_of_pair G q)) v) ∙ ap (λ n. eqb n (suc v)) (is q (in_found q k.0))),
    )

    past_is : (qs : List Named) → Known qs → (p : Named) → edge_of_pair G p < G.m
        → full K (after qs).seen (edge_of_pair G p) ≡ ltb (K.quota (number p - 1)) (suc (sum (λ q. bit (eqb (number q) (number p))) qs))
    past_is qs k p h =
        let e = edge_of_pair G p in
        let i = is p h in
        let j : K.end e ≡ number p - 1 = omega arith in
        one_more (K.quota (K.end e)) (sum (λ d. bit (eqb (K.end d) (K.end e))) (after qs).seen)
        ∙ ap₂ (λ a b. ltb (K.quota a) (suc b)) j (seen_is qs k (K.end e) ∙ ap (λ n. sum (λ q. bit (eqb (number q) n)) qs) i)
      where
        one_more : (a b : ℕ) → leb a b ≡ ltb a (suc b)
        one_more a b = bool_eq (leb a b) (ltb a (suc b)) (λ t. given (leb→le a b t) (λ h. lt→ltb a (suc b) (omega arith)))
            (λ t. given (ltb→lt a (suc b) t) (λ h. le→leb a b (omega arith)))

  -- ---- the check is the documents'
  check_is : Numbered G → (qs : List Named) → Known qs → (p : Named) → pair_check G (after qs) p ≡ refusal_of qs p
  check_is N qs k p = by_cases (dec_lt (edge_of_pair G p) G.m)
      (λ h. ap₂ (λ a b. cond a 10 (cond b 11
      (cond (full (surveyors G) (after qs).seen (edge_of_pair G p) || full (stands G) (after qs).seen (edge_of_pair G p)) 12 0)))
      (lt-leb G.m (edge_of_pair G p) h ∙ sym (ap not (T_true {b = in_roster p} (found_in_law p h)))) (ascends_is N qs k p h)
      ∙ ap₂ (λ a b. cond (not (in_roster p)) 10 (cond (not (above_last qs p)) 11 (cond (a || b) 12 0)))
      (past_is (surveyors G) (λ q. q.surveyor) (λ q l. (found_parts G q l).0) qs k p h)
      (past_is (stands G) (λ q. q.stand) (λ q l. (found_parts G q l).1) qs k p h))
      (λ n. ap (λ a. cond a 10 (cond (ltb e s.from) 11 (cond (full (surveyors G) s.seen e || full (stands G) s.seen e) 12 0)))
      (le-leb G.m e (omega arith))
      ∙ sym (ap (λ a. cond (not a) 10 (cond (not (above_last qs p)) 11 (cond (past_s qs p || past_t qs p) 12 0)))
      (T_false {b = in_roster p} (not_T (in_roster p) (λ t. n (in_found p t))))))
    where
      e : ℕ
      e = edge_of_pair G p

      s : Pairs
      s = after qs

pub plan_refusals : (r : Roster) (qs : List Named) → All (λ q. T (in_roster (instance_of r) q)) qs → (p : Named)
    → pair_check (instance_of r) (after (instance_of r) qs) p ≡ refusal_of (instance_of r) qs p
plan_refusals r = check_is (instance_of r) (roster_numbered r)
