-- The run of the offers: after i of them the arrays show offers of the model, from which the rest of its m come to the same end. So at the end the edges
-- that the stands keep are the plan of the offers.
use Prim.Native.Nat.{ℕ, zero, suc, ◌+◌, ◌-◌, ◌≤◌, ◌<◌}
use native.Mathlib.Omega.{arith}
use Rattle.std.specs.Prelude.{◌≡◌, Bool, not, ◌&&◌, List, set, replicate, eqb, ltb, leb}
use Rattle.std.proofs.Math.Path.{refl, sym, ap}
use Rattle.std.proofs.Common.{ap₂, ◌∙◌, subst, get_or-set_same, get_or-set_other, le-ltb, lt-ltb, le-leb}
use Rattle.std.proofs.Math.Logic.{by_cases}
use Rattle.std.proofs.Math.Decide.{dec_lt}
use Rattle.std.proofs.Math.Bool.{true, false, cond}
use Rattle.std.proofs.Math.ListN.{length-set, get_or-eq_default}
use Rattle.std.proofs.lemmas.List.{length-replicate, get_or-replicate}
use Rattle.std.proofs.Math.Dec.{T}
use Rattle.std.proofs.lemmas.Bool.{lt-leb}
use Rattle.lists.specs.Test.{if-ind, by-eq, eqb_no}
use Rattle.lists.specs.Search.{low, low_is}
use Rattle.model.specs.Limits.{node_limit}
use Rattle.model.specs.Instance as model
use Rattle.model.specs.Instance.{surveyors}
use Rattle.model.specs.Plans.{on}
use Rattle.model.specs.PlanFile.{plan_of}
use Rattle.model_files.specs.Offers.{Offers, next_offer, offered, offers_from, no_offers, offers_plan}
use Rattle.theory_instance.specs.Lawful.{Lawful}
use Rattle.theory_files.specs.Chosen.{on_plan_of, plan_of_length}
use Rattle.theory_offers.specs.NextOffer.{next→}
use Rattle.theory_offers.specs.KeptOffers.{Kept, begun}
use Rattle.theory_offers.proofs.KeptOffers.{further}
use Rattle.theory_offers.specs.OffersPlan.{OneToOne}
use Rattle.arrays.specs.ArrayInstance.{at, flag}
use Rattle.arrays.specs.Passes.{Shows, all_blank}
use Rattle.instance.specs.declared.Instance.{Instance}
use Rattle.instance.specs.Decoded.{shown_by}
use Rattle.instance.specs.Loaded.{Loaded}
use Rattle.reduction_cells.specs.Cells.{Celled}
use Rattle.reduction_cells.specs.CellLaws.{Cells, celled_is}
use Rattle.offers.specs.NextEntry.{entry_from, offering, offer_of, Missed}
use Rattle.offers.specs.Standing as next
use Rattle.offers.specs.Standing.{BySurveyor, offer_is, none_before}
use Rattle.offers.specs.declared.Standing.{Standing}
use Rattle.offers.specs.Turned.{Sized, turn_of, Turned}
use Rattle.offers.specs.TurnStands.{turn_stands}

-- what the offers ask of the arrays of a roster
pub record Ready (g : Instance) : Type 0 where
  pub loaded : Loaded g
  pub profile : OneToOne (shown_by g)
  pub sorted : BySurveyor (shown_by g)

-- the flags of the plan
abbrev pub Offered : Instance → List Bool → Type 0
Offered g plan = (e : ℕ) → flag plan e ≡ on (offers_plan (shown_by g)) e

abbrev pub start_of : ℕ → Standing
start_of m = record { next = replicate 32 0; kept = replicate 32 m; held = replicate 32 false }

-- no edge is tied at its surveyor
abbrev pub unmarked : List Bool
unmarked = replicate 1024 false

module _ (g : Instance) (R : Ready g) where
  abbrev G : model.Instance
  G = shown_by g

  abbrev L : Lawful G
  L = R.loaded.lawful

  -- ---- after i offers
  pub record Running (o : Standing) (i : ℕ) : Type 0 where
    pub few : i ≤ g.m
    pub size : Sized o
    pub inside : (t : ℕ) → t < node_limit → at o.kept t ≤ g.m
    pub offers : Offers
    pub stands : next.Standing G o.next o.kept o.held offers
    pub kept : Kept G L R.profile.strict offers
    pub rest : offers_from G g.m (no_offers G) ≡ offers_from G (g.m - i) offers

  blank_kept : (t : ℕ) → t < node_limit → at (replicate 32 g.m) t ≡ g.m
  blank_kept t h = get_or-replicate 32 t g.m 0 h

  start_stands : next.Standing G (replicate 32 0) (replicate 32 g.m) (replicate 32 false) (no_offers G)
  start_stands = record {
    away = λ e l. sym (ap (ltb (G.rank_s e)) (all_blank 0 32 (G.sv e)) ∙ le-ltb (G.rank_s e) 0 (omega arith));
    keeps = λ e l. sym (ap (λ k. eqb k e) (blank_kept (G.st e) (R.loaded.low_st e)) ∙ eqb_no g.m e (λ q. absurd (let n : ⊥ = omega arith in n)));
    stand = λ t w l. absurd (let n : ⊥ = omega (arith, blank_kept t w) in n);
    has = λ s w t. absurd (subst T (all_blank false 32 s) t);
    free = λ s w t d (l, k) j. k;
  }

  pub running_start : Running (start_of g.m) 0
  running_start = record {
    few = omega arith;
    size = (length-replicate {A = ℕ} 32 0, length-replicate 32 g.m, length-replicate 32 false);
    inside = λ t w. omega (arith, blank_kept t w);
    offers = no_offers G;
    stands = start_stands;
    kept = begun G L R.profile.strict;
    rest = ap (λ n. offers_from G n (no_offers G)) (let q : g.m ≡ g.m - 0 = omega arith in q);
  }

  -- ---- the next offer
  module _ (cell : List ℕ) (C : Celled g.m g.sv g.rank_s unmarked cell) where
    cells : Cells (surveyors G) cell
    cells = celled_is g.m g.ns g.sv g.rank_s unmarked (λ e. false) (at g.quota_s) cell (λ e. sym (all_blank false 1024 e))
        (λ e l. R.loaded.low_sv e) C L.at_s

    module _ (o : Standing) (i : ℕ) (W : Running o i) (e : ℕ) (found : e ≡ offer_of g.m g.ns cell o.next o.held) where
      z : Offers
      z = W.offers

      next_is : e ≡ low (next_offer G z) g.m
      unfolding z
      next_is = found ∙ offer_is G L cell cells R.sorted R.loaded.surveyors o.next o.kept o.held W.offers W.stands

      -- ---- one more
      turned_size : Sized (turn_of g.m g.sv g.st g.rank_s g.rank_t o e)
      unfolding turn_of
      turned_size = let d = at o.kept (at g.st e) in if-ind Sized (leb g.m d)
          (λ t. (W.size.0, length-set o.kept (at g.st e) e ∙ W.size.1, length-set o.held (at g.sv e) true ∙ W.size.2))
          (λ t. if-ind Sized (ltb (at g.rank_t e) (at g.rank_t d))
          (λ u. (
            length-set o.next (at g.sv d) (at g.rank_s d + 1) ∙ W.size.0,
            length-set o.kept (at g.st e) e ∙ W.size.1,
            length-set (set o.held (at g.sv d) false) (at g.sv e) true ∙ length-set o.held (at g.sv d) false ∙ W.size.2,
          ))
          (λ u. (length-set o.next (at g.sv e) (at g.rank_s e + 1) ∙ W.size.0, W.size.1, W.size.2)))

      stored_inside : e < g.m → (t : ℕ) → t < node_limit → at (set o.kept (at g.st e) e) t ≤ g.m
      stored_inside l t w = by-eq t (at g.st e)
          (λ q b. let k : at (set o.kept (at g.st e) e) t ≡ e = ap (at (set o.kept (at g.st e) e)) q
          ∙ get_or-set_same o.kept (at g.st e) e 0 (omega (arith, W.size.1, R.loaded.low_st e)) in omega arith)
          (λ n b. let k = get_or-set_other o.kept (at g.st e) t e 0 n in let h = W.inside t w in omega arith)

      abbrev Within : Standing → Type 0
      Within p = (t : ℕ) → t < node_limit → at p.kept t ≤ g.m

      turned_inside : e < g.m → Within (turn_of g.m g.sv g.st g.rank_s g.rank_t o e)
      unfolding turn_of
      turned_inside l = let d = at o.kept (at g.st e) in if-ind Within (leb g.m d)
          (λ t. stored_inside l) (λ t. if-ind Within (ltb (at g.rank_t e) (at g.rank_t d)) (λ u. stored_inside l) (λ u. W.inside))

      -- so many are left, one fewer after this one
      rest_next : e < g.m → (n : ℕ) → offers_from G (suc n) z ≡ offers_from G n (offered G z e)
      unfolding offers_from z
      rest_next l n = let q = sym next_is in ap (λ x. cond (leb g.m x) z (offers_from G n (offered G z x))) q
          ∙ ap (λ b. cond b z (offers_from G n (offered G z e))) (lt-leb g.m e l)

      one_more : i < g.m → e < g.m → Running (turn_of g.m g.sv g.st g.rank_s g.rank_t o e) (i + 1)
      unfolding z
      one_more h l =
          let N = next→ G z e (subst (λ x. T (next_offer G z x)) (sym next_is) ((low_is (next_offer G z) g.m).2 (subst (λ x. x < g.m) next_is l))) in
          record {
            few = omega arith;
            size = turned_size;
            inside = turned_inside l;
            offers = offered G z e;
            stands = turn_stands g.m g.ns g.nt g.sv g.st g.rank_s g.rank_t g.sh g.tied g.quota_s g.quota_t L
                R.profile.strict (λ e l. R.loaded.low_sv e) (λ e l. R.loaded.low_st e) o W.size z W.stands W.kept e l N;
            kept = (further G L R.profile.strict z W.kept e l N).0;
            rest = W.rest ∙ ap (λ n. offers_from G n z) (let q : g.m - i ≡ suc (g.m - (i + 1)) = omega arith in q) ∙ rest_next l (g.m - (i + 1));
          }

      module _ (p : Standing) (r : ℕ) (N : Turned g.m g.sv g.st g.rank_s g.rank_t o e p r) where
        pub running_next : i < g.m → e < g.m → Running p (i + 1)
        running_next h l = subst (λ p. Running p (i + 1)) (sym N.after) (one_more h l)

        -- nobody before the lowest surveyor that was touched offers
        pub resumed : e < g.m → Missed (offering g.m cell p.next p.held) r
        resumed l j h = let S = N.same j h in
            ap₂ (λ n f. not f && ltb (entry_from g.m cell j n) g.m) S.0 S.1
            ∙ none_before G L cell cells R.loaded.surveyors o.next o.held e found l j (omega (arith, N.lowest))

      -- ---- nobody offers
      pub none_left : g.m ≤ e → offers_from G g.m (no_offers G) ≡ W.offers
      unfolding offers_from z
      none_left h = W.rest ∙ go (g.m - i)
        where
          go : (n : ℕ) → offers_from G n W.offers ≡ W.offers
          go zero = refl
          go (suc n) = let q = sym next_is in ap (λ x. cond (leb g.m x) z (offers_from G n (offered G z x))) q
              ∙ ap (λ b. cond b z (offers_from G n (offered G z e))) (le-leb g.m e h)

  -- m offers were made
  pub all_made : (o : Standing) (i : ℕ) (W : Running o i) → g.m ≤ i → offers_from G g.m (no_offers G) ≡ W.offers
  unfolding offers_from
  all_made o i W h = W.rest ∙ ap (λ n. offers_from G n W.offers) (let q : g.m - i ≡ 0 = omega arith in q)

  -- ---- what the stands keep at the end is the plan
  pub offers_shown_law : (o : Standing) (i : ℕ) (W : Running o i) → offers_from G g.m (no_offers G) ≡ W.offers → (plan : List Bool)
      → Shows false plan g.m (λ e. eqb (at o.kept (at g.st e)) e) → Offered g plan
  unfolding offers_plan
  offers_shown_law o i W q plan S e = by_cases (dec_lt e g.m)
      (λ l. S e ∙ ap (λ b. cond b (eqb (at o.kept (at g.st e)) e) false) (lt-ltb e g.m l) ∙ sym (W.stands.keeps e l)
      ∙ ap (λ z. z.kept e) (sym q) ∙ sym (on_plan_of g.m (offers_from G g.m (no_offers G)).kept e l))
      (λ n. S e ∙ ap (λ b. cond b (eqb (at o.kept (at g.st e)) e) false) (le-ltb e g.m (omega arith)) ∙ sym (behind (omega arith)))
    where
      behind : g.m ≤ e → on (plan_of g.m (offers_from G g.m (no_offers G)).kept) e ≡ false
      behind h = get_or-eq_default (plan_of g.m (offers_from G g.m (no_offers G)).kept) false
          (subst (λ n. n ≤ e) (sym (plan_of_length g.m (offers_from G g.m (no_offers G)).kept)) h)

-- what a run promises: it stands where nobody has an offer left to make
abbrev pub Ended : Instance → Standing → Type 0
Ended g o = (R : Ready g) → (i : ℕ) × (W : Running g R o i) × (offers_from (shown_by g) g.m (no_offers (shown_by g)) ≡ W.offers)
