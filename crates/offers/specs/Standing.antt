-- How the arrays of the code show the model's offers: a pair is turned away if its rank is below its surveyor's place, a stand's entry is the pair that
-- it keeps, and a surveyor is held if a stand keeps a pair of that surveyor. Where they do, the code's next offer is the model's.
use Rattle.std.specs.Prelude.{ℕ, ◌≤◌, ◌<◌, ◌≡◌, refl, Bool, not, List, T, eqb, ltb, leb}
use native.Mathlib.Omega.{arith}
use Rattle.std.proofs.Math.Decide.{dec_lt}
use Rattle.std.proofs.Math.Path.{sym, ap, subst}
use Rattle.std.proofs.Common.{◌∙◌, lt→ltb, nltb→le, le→leb, lt-ltb, le-ltb}
use Rattle.std.proofs.Math.Logic.{by_cases}
use Rattle.std.proofs.Math.Bool.{cond}
use Rattle.std.proofs.Math.Dec.{T_not, not_T, ltb→lt, leb→le}
use Rattle.lists.specs.Test.{by-test, given, and_l, and_r, and_i, T_true, T_false}
use Rattle.lists.specs.Search.{low, low_is, low_hit, low_none}
use Rattle.model.specs.Limits.{node_limit, empty_rank}
use Rattle.model.specs.Instance.{Instance, surveyors}
use Rattle.model_files.specs.Offers.{Offers, next_offer}
use Rattle.theory_instance.specs.Lawful.{Lawful}
use Rattle.theory_offers.specs.NextOffer.{In, Next, next→, →next}
use Rattle.arrays.specs.ArrayInstance.{at, flag}
use Rattle.reduction_cells.specs.Cells.{in_cell}
use Rattle.reduction_cells.specs.CellLaws.{Cells}
use Rattle.offers.specs.NextEntry.{holds, found, entry_from, offering, offer_of, Missed}

pub record Standing (G : Instance) (next kept : List ℕ) (held : List Bool) (z : Offers) : Type 0 where
  pub away : (e : ℕ) → e < G.m → z.away e ≡ ltb (G.rank_s e) (at next (G.sv e))
  pub keeps : (e : ℕ) → e < G.m → z.kept e ≡ eqb (at kept (G.st e)) e
  pub stand : (t : ℕ) → t < node_limit → at kept t < G.m → G.st (at kept t) ≡ t
  pub has : (s : ℕ) → s < node_limit → T (flag held s) → (d : ℕ) × In G z d × (G.sv d ≡ s)
  pub free : (s : ℕ) → s < node_limit → T (not (flag held s)) → (d : ℕ) → In G z d → G.sv d ≡ s → ⊥

-- edges are numbered by surveyor
abbrev pub BySurveyor : Instance → Type 0
BySurveyor G = (d e : ℕ) → d < e → e < G.m → G.sv d ≤ G.sv e

module _ (G : Instance) (L : Lawful G) (cell : List ℕ) (C : Cells (surveyors G) cell) where
  -- ---- a surveyor's first edge from a rank on
  module _ (s from : ℕ) (w : s < node_limit) where
    abbrev p : ℕ → Bool
    p = holds G.m cell s from

    -- an edge at s that is not before the place is found, if none is before it
    at_rank : (d : ℕ) → d < G.m → G.sv d ≡ s → from ≤ G.rank_s d → T (p (G.rank_s d))
    at_rank d l i h = and_i (leb from (G.rank_s d)) (ltb (in_cell cell s (G.rank_s d)) G.m) (le→leb from (G.rank_s d) h)
        (lt→ltb (in_cell cell s (G.rank_s d)) G.m (subst (λ x. x < G.m) (sym (subst (λ v. in_cell cell v (G.rank_s d) ≡ d) i (C.here d l tt))) l))

    pub entry_none : G.m ≤ entry_from G.m cell s from → (d : ℕ) → d < G.m → G.sv d ≡ s → G.rank_s d < from
    unfolding entry_from
    entry_none h d l i = by_cases (dec_lt (G.rank_s d) from) (λ k. k) (λ k. absurd (given (low_is p empty_rank) (λ (a, b, t).
        by_cases (dec_lt (low p empty_rank) empty_rank)
        (λ q. let f : found G.m cell s (low p empty_rank) ≡ in_cell cell s (low p empty_rank) =
        ap (λ x. cond x (in_cell cell s (low p empty_rank)) G.m) (lt-ltb (low p empty_rank) empty_rank q) in
        let u = ltb→lt (in_cell cell s (low p empty_rank)) G.m
        (and_r (leb from (low p empty_rank)) (ltb (in_cell cell s (low p empty_rank)) G.m) (t q)) in omega arith)
        (λ q. T_not (p (G.rank_s d)) (b (G.rank_s d) (omega (arith, L.at_s.placed d l))) (at_rank d l i (omega arith))))))

    pub record Entry (e : ℕ) : Type 0 where
      pub owner : G.sv e ≡ s
      pub behind : from ≤ G.rank_s e
      pub first : (d : ℕ) → d < G.m → G.sv d ≡ s → G.rank_s d < G.rank_s e → G.rank_s d < from

    pub entry_is : entry_from G.m cell s from < G.m → Entry (entry_from G.m cell s from)
    unfolding entry_from
    entry_is h = given (low_is p empty_rank) (λ (a, b, t). by_cases (dec_lt (low p empty_rank) empty_rank)
        (λ q. let r = low p empty_rank in
        let f : found G.m cell s r ≡ in_cell cell s r = ap (λ x. cond x (in_cell cell s r) G.m) (lt-ltb r empty_rank q) in
        let l : in_cell cell s r < G.m = omega arith in
        let k : G.rank_s (in_cell cell s r) ≡ r = C.rank s r w q l in
        let g : from ≤ r = leb→le from r (and_l (leb from r) (ltb (in_cell cell s r) G.m) (t q)) in
        subst Entry (sym f) (record {
          owner = C.node s r w q l;
          behind = omega arith;
          first = λ d m i n. by_cases (dec_lt (G.rank_s d) from) (λ x. x)
              (λ x. absurd (T_not (p (G.rank_s d)) (b (G.rank_s d) (omega arith)) (at_rank d m i (omega arith))));
        }))
        (λ q. let f : found G.m cell s (low p empty_rank) ≡ G.m =
        ap (λ x. cond x (in_cell cell s (low p empty_rank)) G.m) (le-ltb (low p empty_rank) empty_rank (omega arith)) in absurd (let n : ⊥ = omega arith in n)))

  -- ---- nobody before the surveyor of the next offer offers
  pub none_before : G.ns ≤ node_limit → (next : List ℕ) (held : List Bool) (e : ℕ) → e ≡ offer_of G.m G.ns cell next held → e < G.m
      → Missed (offering G.m cell next held) (G.sv e)
  unfolding offer_of
  none_before few next held e f l i h =
      let q = offering G.m cell next held in
      let s = low q G.ns in
      let y = entry_from G.m cell s (at next s) in
      given (low_is q G.ns) (λ (a, b, t). by_cases (dec_lt s G.ns)
      (λ k. let x : e ≡ y = f ∙ ap (λ c. cond c y G.m) (lt-ltb s G.ns k) in
      let o : G.sv e ≡ s = ap G.sv x ∙ (entry_is s (at next s) (omega arith) (subst (λ d. d < G.m) x l)).owner in T_false (b i (omega arith)))
      (λ k. let x : e ≡ G.m = f ∙ ap (λ c. cond c y G.m) (le-ltb s G.ns (omega arith)) in absurd (let n : ⊥ = omega arith in n)))

  -- ---- who offers
  module _ (sorted : BySurveyor G) (few : G.ns ≤ node_limit) (next kept : List ℕ) (held : List Bool) (z : Offers) (S : Standing G next kept held z) where
    abbrev q : ℕ → Bool
    q = offering G.m cell next held

    abbrev entry : ℕ → ℕ
    entry s = entry_from G.m cell s (at next s)

    -- whoever has a next offer in the model is found
    offers_next : (d : ℕ) → d < G.m → Next G z d → T (q (G.sv d))
    offers_next d l N =
        let w : G.sv d < node_limit = C.nodes d l in
        and_i (not (flag held (G.sv d))) (ltb (entry (G.sv d)) G.m)
        (not_T (flag held (G.sv d)) (λ t. given (S.has (G.sv d) w t) (λ (x, i, j). N.alone x i j)))
        (by-test (ltb (entry (G.sv d)) G.m) (λ t. t) (λ t. absurd (N.unasked (subst T (sym (S.away d l))
        (lt→ltb (G.rank_s d) (at next (G.sv d)) (entry_none (G.sv d) (at next (G.sv d)) w (nltb→le (entry (G.sv d)) G.m t) d l refl))))))

    -- and what is found is that surveyor's next offer
    next_entry : (s : ℕ) → s < node_limit → T (q s) → Next G z (entry s) × (G.sv (entry s) ≡ s)
    next_entry s w t =
        let l = ltb→lt (entry s) G.m (and_r (not (flag held s)) (ltb (entry s) G.m) t) in
        given (entry_is s (at next s) w l) (λ E. (
          record {
            unasked = λ u. let k : G.rank_s (entry s) < at next s =
                subst (λ v. G.rank_s (entry s) < at next v) E.owner
                (ltb→lt (G.rank_s (entry s)) (at next (G.sv (entry s))) (subst T (S.away (entry s) l) u)) in
                let b = E.behind in omega arith;
            alone = λ d i j. S.free s w (and_l (not (flag held s)) (ltb (entry s) G.m) t) d i (j ∙ E.owner);
            first = λ d m i n. subst T (sym (S.away d m)) (lt→ltb (G.rank_s d) (at next (G.sv d))
                (subst (λ v. G.rank_s d < at next v) (sym (i ∙ E.owner)) (E.first d m (i ∙ E.owner) n)));
          },
          E.owner,
        ))

    -- one surveyor has one next offer
    one_next : (d e : ℕ) → d < G.m → e < G.m → G.sv d ≡ G.sv e → Next G z d → Next G z e → d ≡ e
    one_next d e l k i M N = by_cases (dec_lt (G.rank_s d) (G.rank_s e))
        (λ h. absurd (M.unasked (N.first d l i h)))
        (λ h. by_cases (dec_lt (G.rank_s e) (G.rank_s d))
        (λ g. absurd (N.unasked (M.first e k (sym i) g)))
        (λ g. L.at_s.strict d e l k i (omega arith) tt))

    pub offer_is : offer_of G.m G.ns cell next held ≡ low (next_offer G z) G.m
    unfolding offer_of
    offer_is = given (low_is q G.ns) (λ (a, b, t). by_cases (dec_lt (low q G.ns) G.ns)
        (λ h. let s = low q G.ns in
        let w : s < node_limit = omega arith in
        let l = ltb→lt (entry s) G.m (and_r (not (flag held s)) (ltb (entry s) G.m) (t h)) in
        given (next_entry s w (t h)) (λ (N, i).
        ap (λ x. cond x (entry s) G.m) (lt-ltb s G.ns h) ∙ sym (low_hit (next_offer G z) (entry s) G.m
        (low_none (next_offer G z) (entry s) (λ d k. T_false (not_T (next_offer G z d) (λ u.
        let D = next→ G z d u in
        let dl : d < G.m = omega arith in
        let o : G.sv d ≤ s = subst (λ v. G.sv d ≤ v) i (sorted d (entry s) k l) in
        by_cases (dec_lt (G.sv d) s)
        (λ g. T_not (q (G.sv d)) (b (G.sv d) g) (offers_next d dl D))
        (λ g. let j : G.sv d ≡ s = omega arith in let y = one_next d (entry s) dl l (j ∙ sym i) D N in omega arith)))))
        (T_true (→next G z (entry s) N)) l)))
        (λ h. let e : low q G.ns ≡ G.ns = omega arith in
        ap (λ x. cond x (entry (low q G.ns)) G.m) (le-ltb (low q G.ns) G.ns (omega arith))
        ∙ sym (low_none (next_offer G z) G.m (λ d l. T_false (not_T (next_offer G z d) (λ u.
        T_not (q (G.sv d)) (b (G.sv d) (subst (λ x. G.sv d < x) (sym e) (L.at_s.inside d l))) (offers_next d l (next→ G z d u))))))))
