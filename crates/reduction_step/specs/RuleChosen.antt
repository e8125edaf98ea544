-- Which rule acts, and what a step promises. The code asks the rules one after the other: as long as none has named an edge, it is silent up to here.
use Prim.Native.Nat.{ℕ, ◌+◌, ◌≤◌, ◌<◌, min}
use Rattle.std.proofs.Common.{arith, ◌∙◌, subst}
use Rattle.std.specs.Prelude.{◌≡◌, refl, Bool, true, false, ◌&&◌, ◌||◌, List, Option, None, Some, ltb}
use Rattle.std.proofs.Math.Path.{sym, ap, ap₂}
use Rattle.std.proofs.Math.Bool.{and-false}
use borrow.Author.Tests.{lt-ltb, le-ltb}
use Rattle.lists.specs.Search.{low, low_cong, low_miss, low_hit, low_none}
use Rattle.model.specs.Limits.{node_limit}
use Rattle.model.specs.Instance.{Instance}
use Rattle.model.specs.Reduction.{State, rule1, rule2, rule3, rule4, rule5, rule6, rule7}
use Rattle.theory_reduction.specs.RuleNumbers.{names, lowest, rule_of, edge_of}
use Rattle.theory_reduction.specs.ByNode.{rule2_s, rule2_t, rule2_ends}
use Rattle.reduction_nodes.specs.declared.Surveyor.{Surveyor}
use Rattle.reduction_nodes.specs.declared.Stand.{Stand}
use Rattle.reduction_nodes.specs.Known.{Edges, Known, instance_of, state_of}
use Rattle.reduction_nodes.specs.Kept.{NodeLists, Tables, Filled, Looks, Later, Leads, Lates, Fresh, edges, later, cells_s, cells_t}
use Rattle.reduction_nodes.specs.Numbers.{row}
use Rattle.reduction_nodes.specs.NodeLaws.{Seen, Named, Loose, stand2, stand3, stand7, stand_loose, surveyor1, surveyor2, surveyor4, surveyor5, surveyor6}
use Rattle.reduction_step.specs.declared.Named as step
use Rattle.reduction_step.specs.Least.{Least, least_lowest, low_either}

-- what the answer of a step says: the number of the rule, 8 where none acts, and the edge, which is m then
abbrev pub rule_told : Option step.Named → ℕ
rule_told (Some a) = a.rule
rule_told None = 8

abbrev pub edge_told : (m : ℕ) → Option step.Named → ℕ
edge_told m (Some a) = a.edge
edge_told m None = m

module _ (G : Instance) (Z : State) where
  -- the rule and its edge are the model's
  pub record Says (r e : ℕ) : Type 0 where
    pub rule_is : rule_of G Z ≡ r
    pub edge_is : edge_of G Z ≡ e

  abbrev acts : ℕ → Bool
  acts r = ltb (lowest G Z r) G.m

  -- no rule below k names an edge
  abbrev pub Silent : ℕ → Type 0
  Silent k = low acts k ≡ k

  none : (k : ℕ) → ((e : ℕ) → names G Z k e ≡ false) → lowest G Z k ≡ G.m
  unfolding lowest
  none k h = low_none (λ e. Z.rem e && names G Z k e) G.m (λ e l. ap (λ x. Z.rem e && x) (h e) ∙ and-false (Z.rem e))

  pub silent_1 : Silent 1
  unfolding low names
  silent_1 = simp (none 0 (λ e. refl), le-ltb G.m G.m (omega arith))

  pub passes : (k x : ℕ) → Silent k → x ≡ lowest G Z k → G.m ≤ x → Silent (k + 1)
  passes k x s h l = low_miss acts k s (le-ltb (lowest G Z k) G.m (omega arith))

  pub says : (k x : ℕ) → Silent k → k < 8 → x ≡ lowest G Z k → x < G.m → Says k x
  unfolding rule_of edge_of
  says k x s kl h l =
      let r : rule_of G Z ≡ k = low_hit acts k 8 s (lt-ltb (lowest G Z k) G.m (omega arith)) kl in
      record { rule_is = r; edge_is = ap (lowest G Z) r ∙ sym h }

  says_none : Silent 8 → Says 8 G.m
  unfolding rule_of edge_of names
  says_none s = record { rule_is = s; edge_is = ap (lowest G Z) s ∙ none 8 (λ e. refl) }

  -- ---- the numbers of the nodes are the model's
  pub record Fits : Type 0 where
    pub at_s : (e : ℕ) → e < G.m → G.sv e < node_limit
    pub at_t : (e : ℕ) → e < G.m → G.st e < node_limit

  pub record Later37Named (lates latet : List (List ℕ)) : Type 0 where
    pub fits : Fits
    pub rule3 : Named G Z (row latet 0) G.st rule3
    pub rule4 : Named G Z (row lates 0) G.sv rule4
    pub rule5 : Named G Z (row lates 1) G.sv rule5
    pub rule6 : Named G Z (row lates 2) G.sv rule6
    pub rule7 : Named G Z (row latet 1) G.st rule7

  split : (r a b c : Bool) → c ≡ a || b → r && c ≡ (r && a) || (r && b)
  split true a b c h = h
  split false a b c h = refl

  lowest2 : Fits → (twos twot : List ℕ) → Named G Z twos G.sv rule2_s → Named G Z twot G.st rule2_t → (a b r : ℕ) → Least twos node_limit a
      → Least twot node_limit b → r ≡ min a b → r ≡ lowest G Z 2
  unfolding lowest names
  lowest2 F twos twot NS NT a b r LS Lt q =
      q ∙ ap₂ min (least_lowest G.m G.sv (λ e. Z.rem e && rule2_s G Z e) F.at_s twos a NS LS)
      (least_lowest G.m G.st (λ e. Z.rem e && rule2_t G Z e) F.at_t twot b NT Lt)
      ∙ sym (low_either (λ e. Z.rem e && rule2_s G Z e) (λ e. Z.rem e && rule2_t G Z e) G.m)
      ∙ sym (low_cong (λ e. Z.rem e && rule2 G Z e) (λ e. (Z.rem e && rule2_s G Z e) || (Z.rem e && rule2_t G Z e)) G.m
      (λ e l. split (Z.rem e) (rule2_s G Z e) (rule2_t G Z e) (rule2 G Z e) (rule2_ends G Z e)))

  lowest1 : Fits → (one : List ℕ) → Named G Z one G.sv rule1 → (r : ℕ) → Least one node_limit r → r ≡ lowest G Z 1
  unfolding lowest names
  lowest1 F one N r L = least_lowest G.m G.sv (λ e. Z.rem e && rule1 G Z e) F.at_s one r N L

-- ---- what the functions of a step promise
-- of rules 3 to 7, of every instance and state whose numbers these are
abbrev pub Later37 : (m : ℕ) (lates latet : List (List ℕ)) (r e : ℕ) → Type 0
Later37 m lates latet r e = (G : Instance) (Z : State) → m ≡ G.m → Later37Named G Z lates latet → Silent G Z 3 → Says G Z r e

-- below k of these rules none names an edge
abbrev pub Quiet37 : (m : ℕ) (lates latet : List (List ℕ)) (k : ℕ) → Type 0
Quiet37 m lates latet k = (G : Instance) (Z : State) → m ≡ G.m → Later37Named G Z lates latet → Silent G Z 3 → Silent G Z k

-- and x is the lowest edge that rule k names
abbrev Lowest37 : (m : ℕ) (lates latet : List (List ℕ)) (k x : ℕ) → Type 0
Lowest37 m lates latet k x = (G : Instance) (Z : State) → m ≡ G.m → Later37Named G Z lates latet → x ≡ lowest G Z k

module _ {m : ℕ} {lates latet : List (List ℕ)} where
  pub quiet_3 : Quiet37 m lates latet 3
  quiet_3 G Z i N s = s

  -- rule k names none, or it names an edge; or all of them were asked
  pub quiet_next : {k x : ℕ} → Quiet37 m lates latet k → Lowest37 m lates latet k x → m ≤ x → Quiet37 m lates latet (k + 1)
  quiet_next {k} {x} q f l G Z i N s = passes G Z k x (q G Z i N s) (f G Z i N) (omega arith)

  pub says_37 : {k x : ℕ} → k < 8 → Quiet37 m lates latet k → Lowest37 m lates latet k x → x < m → Later37 m lates latet k x
  says_37 {k} {x} b q f l G Z i N s = says G Z k x (q G Z i N s) b (f G Z i N) (omega arith)

  pub says_8 : Quiet37 m lates latet 8 → Later37 m lates latet 8 m
  says_8 q G Z i N s = subst (Says G Z 8) (sym i) (says_none G Z (q G Z i N s))

  -- the least of a rule's row is that edge
  module _ {x : ℕ} where
    pub least_3 : Least (row latet 0) node_limit x → Lowest37 m lates latet 3 x
    unfolding lowest names
    least_3 L G Z i N = least_lowest G.m G.st (λ e. Z.rem e && rule3 G Z e) N.fits.at_t (row latet 0) x N.rule3 L

    pub least_4 : Least (row lates 0) node_limit x → Lowest37 m lates latet 4 x
    unfolding lowest names
    least_4 L G Z i N = least_lowest G.m G.sv (λ e. Z.rem e && rule4 G Z e) N.fits.at_s (row lates 0) x N.rule4 L

    pub least_5 : Least (row lates 1) node_limit x → Lowest37 m lates latet 5 x
    unfolding lowest names
    least_5 L G Z i N = least_lowest G.m G.sv (λ e. Z.rem e && rule5 G Z e) N.fits.at_s (row lates 1) x N.rule5 L

    pub least_6 : Least (row lates 2) node_limit x → Lowest37 m lates latet 6 x
    unfolding lowest names
    least_6 L G Z i N = least_lowest G.m G.sv (λ e. Z.rem e && rule6 G Z e) N.fits.at_s (row lates 2) x N.rule6 L

    pub least_7 : Least (row latet 1) node_limit x → Lowest37 m lates latet 7 x
    unfolding lowest names
    least_7 L G Z i N = least_lowest G.m G.st (λ e. Z.rem e && rule7 G Z e) N.fits.at_t (row latet 1) x N.rule7 L

-- of all rules, of every lawful instance and state that the arrays show
abbrev Steps : (A : Edges) (L : NodeLists) (X : Looks) (r e : ℕ) → Type 0
Steps A L X r e = (quota_s quota_t : List ℕ) (K : Known A quota_s quota_t) → Filled A K.tied L → (fixed : List Bool) (k_s k_t : ℕ → ℕ)
    → Seen (instance_of K) (state_of X.rem fixed k_s k_t) X.fs X.ft X.qs X.qt → Says (instance_of K) (state_of X.rem fixed k_s k_t) r e

-- the later numbers are made anew, of all edges whose stands these are and whose tables
abbrev pub Renews : (m : ℕ) (st : List ℕ) (L : NodeLists) (X : Looks) (x y : Later) → Type 0
Renews m st L X x y = (sv rs rt : List ℕ) → Tables (edges m sv st rs rt) L → Lates (edges m sv st rs rt) L X x → Fresh (edges m sv st rs rt) L X y

-- and the whole step, where the numbers of rules 1 and 2 are those of the arrays
abbrev pub Stepped : (m : ℕ) (st : List ℕ) (L : NodeLists) (X : Looks) (lead : List (List ℕ)) (x y : Later) (r e : ℕ) → Type 0
Stepped m st L X lead x y r e = (sv rs rt : List ℕ) → Tables (edges m sv st rs rt) L → Leads (edges m sv st rs rt) L X (row lead 0) (row lead 1) (row lead 2)
    → Lates (edges m sv st rs rt) L X x → Lates (edges m sv st rs rt) L X y × Steps (edges m sv st rs rt) L X r e

-- while the code asks: no rule below k names an edge, of every lawful instance and state that the arrays show
abbrev pub Quiet : (m : ℕ) (st : List ℕ) (L : NodeLists) (X : Looks) (lead : List (List ℕ)) (k : ℕ) → Type 0
Quiet m st L X lead k = (sv rs rt : List ℕ) → Leads (edges m sv st rs rt) L X (row lead 0) (row lead 1) (row lead 2) → (quota_s quota_t : List ℕ)
    (K : Known (edges m sv st rs rt) quota_s quota_t) → Filled (edges m sv st rs rt) K.tied L → (fixed : List Bool) (k_s k_t : ℕ → ℕ)
    → Seen (instance_of K) (state_of X.rem fixed k_s k_t) X.fs X.ft X.qs X.qt → Silent (instance_of K) (state_of X.rem fixed k_s k_t) k

module _ {A : Edges} {L : NodeLists} (X : Looks) {quota_s quota_t : List ℕ} (K : Known A quota_s quota_t) (F : Filled A K.tied L)
    (fixed : List Bool) (k_s k_t : ℕ → ℕ)
    (S : Seen (instance_of K) (state_of X.rem fixed k_s k_t) X.fs X.ft X.qs X.qt) where
  abbrev G : Instance
  G = instance_of K

  abbrev Z : State
  Z = state_of X.rem fixed k_s k_t

  fits : Fits G Z
  fits = record { at_s = K.fit_s; at_t = K.fit_t }

  pub first_says : (one twoS twoT : List ℕ) → Leads A L X one twoS twoT → (r : ℕ) → Least one node_limit r → r ≡ lowest G Z 1
  first_says one twoS twoT H r M = lowest1 G Z fits one
      (λ v w. H.first v w ∙ surveyor1 K X.rem fixed k_s k_t X.fs X.ft X.qs X.qt S L.table_s L.table_t (cells_s K F) (cells_t K F) v w) r M

  pub second_says : (one twoS twoT : List ℕ) → Leads A L X one twoS twoT → (a b r : ℕ) → Least twoS node_limit a → Least twoT node_limit b → r ≡ min a b
      → r ≡ lowest G Z 2
  second_says one twoS twoT H = lowest2 G Z fits twoS twoT
      (λ v w. H.at_s v w ∙ surveyor2 K X.rem fixed k_s k_t X.fs X.ft X.qs X.qt S L.table_s L.table_t (cells_s K F) (cells_t K F) v w)
      (λ v w. H.at_t v w ∙ stand2 K X.rem fixed k_s k_t X.fs X.ft X.qs X.qt S L.table_s L.table_t (cells_s K F) (cells_t K F) v w)

  pub later_named : (lates latet : List (List ℕ)) (loose olds oldt : List Bool) → Fresh A L X (later lates latet loose olds oldt)
      → Later37Named G Z lates latet
  later_named lates latet loose olds oldt H =
      let x = later lates latet loose olds oldt in
      let lo : Loose G Z x.stands.loose
      = (λ v w. ap (λ (s : Stand). s.loose) (H.lates.stand v w (H.none_t v w))
      ∙ stand_loose K X.rem fixed k_s k_t X.fs X.ft X.qs X.qt S L.table_s L.table_t (cells_s K F) (cells_t K F) v w) in
      record {
        fits = fits;
        rule3 = λ v w. ap (λ (s : Stand). s.rule3) (H.lates.stand v w (H.none_t v w))
            ∙ stand3 K X.rem fixed k_s k_t X.fs X.ft X.qs X.qt S L.table_s L.table_t (cells_s K F) (cells_t K F) v w;
        rule4 = λ v w. ap (λ (s : Surveyor). s.rule4) (H.lates.surveyor v w (H.none_s v w))
            ∙ surveyor4 K X.rem fixed k_s k_t X.fs X.ft X.qs X.qt S L.table_s L.table_t (cells_s K F) (cells_t K F) x.stands.loose lo v w;
        rule5 = λ v w. ap (λ (s : Surveyor). s.rule5) (H.lates.surveyor v w (H.none_s v w))
            ∙ surveyor5 K X.rem fixed k_s k_t X.fs X.ft X.qs X.qt S L.table_s L.table_t (cells_s K F) (cells_t K F) x.stands.loose lo v w;
        rule6 = λ v w. ap (λ (s : Surveyor). s.rule6) (H.lates.surveyor v w (H.none_s v w))
            ∙ surveyor6 K X.rem fixed k_s k_t X.fs X.ft X.qs X.qt S L.table_s L.table_t (cells_s K F) (cells_t K F) x.stands.loose lo v w;
        rule7 = λ v w. ap (λ (s : Stand). s.rule7) (H.lates.stand v w (H.none_t v w))
            ∙ stand7 K X.rem fixed k_s k_t X.fs X.ft X.qs X.qt S L.table_s L.table_t (cells_s K F) (cells_t K F) v w;
      }
