-- The bytes that the code writes for one side are the model's: what is asked of the arrays, and the tie, node by node.
use Rattle.std.specs.Prelude.{ℕ, ◌+◌, ◌*◌, ◌≤◌, ◌<◌, ◌≡◌, refl, Bool, false, not, List, [], ◌∷◌, ◌++◌, length, get_or, take, drop}
use Rattle.std.proofs.Common.{arith, sym, ap, ap₂, ◌∙◌, subst}
use Rattle.std.proofs.Math.Decide.{dec_lt}
use Rattle.std.proofs.Math.Logic.{by_cases}
use Rattle.std.proofs.Math.ListN.{get_or-eq_default}
use Rattle.lists.specs.Sum.{◌∈◌, sum, range, ∈_range, up_to}
use Rattle.lists.specs.Test.{by_bool}
use Rattle.lists.specs.Keep.{keep, get_d_∈}
use Rattle.lists.specs.Ranges.{gather_cong}
use Rattle.model.specs.Limits.{node_limit, quota_limit}
use Rattle.model.specs.Instance.{Side, deg}
use Rattle.model.specs.PlanFile.{edges_in}
use Rattle.model.specs.Facing.{facing, facing_bytes, side_bytes, pairing_bytes}
use Rattle.model_desk.specs.Desk.{onto}
use Rattle.theory_instance.specs.Lawful.{Within}
use Rattle.theory_votes.specs.Keys.{empty_key, key_bytes}
use Rattle.theory_votes.specs.PairingBytes.{side_bytes_length}
use Rattle.arrays.specs.ArrayInstance.{at, flag, shown}
use Rattle.vote_own_ranks.specs.declared.Ranked.{Ranked}
use Rattle.vote_own_ranks.specs.Own.{blank, Edges, Gathered, GatheredShared}
use Rattle.vote_own_ranks.specs.Kept.{ranks_at}
use Rattle.vote_plans.specs.Node.{Sound, own}
use Rattle.vote_plans.specs.Plan.{Arrays, Light, side_of, within_light}
use Rattle.vote_plans.specs.Side.{listed_edges, gathered_sound, gathered_is, gathered_ready}
use Rattle.plan_lookup.specs.PlanEdges.{Listed}
use Rattle.vote_pairings_node.specs.NodePairs.{node_pairs, node_keys_length, node_keys_low, node_bytes}
use Rattle.vote_pairings.specs.SideBytes.{written, written_more, keys_at, node_out, side_out, NodeReady}

-- the arrays of one side, with its quotas, and two plans within them
pub record Faced (m n : ℕ) (end rank quota : List ℕ) (p q : List Bool) : Type 0 where
  pub arrays : Arrays m n end rank
  pub few : (v : ℕ) → at quota v ≤ quota_limit
  pub first : Within (side_of m n end rank (λ e. false) (at quota)) (flag p)
  pub second : Within (side_of m n end rank (λ e. false) (at quota)) (flag q)

-- whatever ties the side has, its pairings stand in the buffer from a place on
abbrev pub SideWritten : (m n : ℕ) (end rank quota : List ℕ) (p q : List Bool) (from : ℕ) (before after : List ℕ) → Type 0
SideWritten m n end rank quota p q from before after = (tie : ℕ → Bool)
    → after ≡ written from (side_bytes (side_of m n end rank tie (at quota)) (flag p) (flag q)) before

-- whatever shifts and ties the edges have, the pairings of the vote of p against q stand at the buffer's front, in the instance that the arrays show
abbrev pub PlanWritten : (m ns nt : ℕ) (sv st rank_s rank_t quota_s quota_t : List ℕ) (p q : List Bool) (before after : List ℕ) → Type 0
PlanWritten m ns nt sv st rank_s rank_t quota_s quota_t p q before after = (sh : List ℕ) (tied : List Bool)
    → after ≡ onto (pairing_bytes (shown m ns nt sv st rank_s rank_t sh tied quota_s quota_t) (flag p) (flag q)) before

-- what is asked for the pairings of one side: it is the side of some edges, both plans are within its quotas, and their edges are listed
pub record Asked (n : ℕ) (end rank quota : List ℕ) (p : List Bool) (pn : ℕ) (pe : List ℕ) (q : List Bool) (qn : ℕ) (qe : List ℕ) : Type 0 where
  pub m : ℕ
  pub faced : Faced m n end rank quota p q
  pub own : Listed m p pn pe
  pub others : Listed m q qn qe

-- the same for both sides of the same edges
pub record BothAsked (ns nt : ℕ) (sv st rank_s rank_t quota_s quota_t : List ℕ) (p : List Bool) (pn : ℕ) (pe : List ℕ) (q : List Bool) (qn : ℕ) (qe : List ℕ)
    : Type 0 where
  pub m : ℕ
  pub at_s : Faced m ns sv rank_s quota_s p q
  pub at_t : Faced m nt st rank_t quota_t p q
  pub own : Listed m p pn pe
  pub others : Listed m q qn qe

-- whatever edges show the side as asked, its pairings stand in the buffer from a place on
abbrev pub SideFaced : (n : ℕ) (end rank quota : List ℕ) (p : List Bool) (pn : ℕ) (pe : List ℕ) (q : List Bool) (qn : ℕ) (qe : List ℕ)
    (from : ℕ) (before after : List ℕ) → Type 0
SideFaced n end rank quota p pn pe q qn qe from before after = (A : Asked n end rank quota p pn pe q qn qe)
    → SideWritten A.m n end rank quota p q from before after

-- whatever edges show both sides as asked, the pairings of the vote of p against q stand at the buffer's front
abbrev pub PlanFaced : (ns nt : ℕ) (sv st rank_s rank_t quota_s quota_t : List ℕ) (p : List Bool) (pn : ℕ) (pe : List ℕ) (q : List Bool) (qn : ℕ) (qe : List ℕ)
    (before after : List ℕ) → Type 0
PlanFaced ns nt sv st rank_s rank_t quota_s quota_t p pn pe q qn qe before after = (A : BothAsked ns nt sv st rank_s rank_t quota_s quota_t p pn pe q qn qe)
    → PlanWritten A.m ns nt sv st rank_s rank_t quota_s quota_t p q before after

-- what is kept of each node are the ranks of the edges that both plans have
abbrev pub SharedIn : (m : ℕ) (end rank : List ℕ) (p q : List Bool) → List Ranked → Type 0
SharedIn m end rank p q s = (v : ℕ) → v < node_limit → Sound (ranks_at (at end) (at rank) (λ e. not (flag q e)) v (edges_in m (flag p))) (get_or s v blank)

-- the same from the other plan's side
ranks_shared : (end rank : ℕ → ℕ) (p q : ℕ → Bool) (v : ℕ) (es : List ℕ)
    → ranks_at end rank (λ e. not (q e)) v (keep p es) ≡ ranks_at end rank (λ e. not (p e)) v (keep q es)
unfolding ranks_at
ranks_shared end rank p q v [] = refl
ranks_shared end rank p q v (e ∷ es) = by_bool (p e)
    (λ s. by_bool (q e) (λ t. simp (s, t, ranks_shared end rank p q v es)) (λ t. simp (s, t, ranks_shared end rank p q v es)))
    (λ s. by_bool (q e) (λ t. simp (s, t, ranks_shared end rank p q v es)) (λ t. simp (s, t, ranks_shared end rank p q v es)))

shared_back : (m : ℕ) (end rank : List ℕ) (p q : List Bool) (s : List Ranked) → SharedIn m end rank p q s → SharedIn m end rank q p s
shared_back m end rank p q s S v h = subst (λ xs. Sound xs (get_or s v blank)) (ranks_shared (at end) (at rank) (flag p) (flag q) v (range 0 m)) (S v h)

module _ {n : ℕ} {end rank quota : List ℕ} {p : List Bool} {pn : ℕ} {pe : List ℕ} {q : List Bool} {qn : ℕ} {qe : List ℕ}
    (A : Asked n end rank quota p pn pe q qn qe) where
  abbrev m : ℕ
  m = A.m

  abbrev F : Faced m n end rank quota p q
  F = A.faced

  -- the vote the other way is asked for with it
  pub asked_back : Asked n end rank quota q qn qe p pn pe
  asked_back = record {
    m = m;
    faced = record { arrays = F.arrays; few = F.few; first = F.second; second = F.first };
    own = A.others;
    others = A.own;
  }

  pub own_edges : Edges pn pe end
  own_edges = listed_edges m n end rank F.arrays p pn pe A.own

  pub other_edges : Edges qn qe end
  other_edges = listed_edges m n end rank F.arrays q qn qe A.others

  -- ties do not matter to the quotas
  within : (tie : ℕ → Bool) → Within (side_of m n end rank tie (at quota)) (flag p) × Within (side_of m n end rank tie (at quota)) (flag q)
  unfolding deg
  within tie = (F.first, F.second)

  pub light : Light m end p × Light m end q
  light = (
    within_light m n end rank (λ e. false) (at quota) p F.few F.first,
    within_light m n end rank (λ e. false) (at quota) q F.few F.second,
  )

  -- the shared ranks, gathered from the first plan's edges
  pub own_shared : (s : List Ranked) → GatheredShared pn pe end rank q s → SharedIn m end rank p q s
  own_shared s G = gathered_sound m n end rank F.arrays p pn pe A.own light.0 (λ e. not (flag q e)) s G

  -- and from the second plan's
  pub other_shared : (s : List Ranked) → GatheredShared qn qe end rank p s → SharedIn m end rank p q s
  other_shared s G = shared_back m end rank q p s (gathered_sound m n end rank F.arrays q qn qe A.others light.1 (λ e. not (flag p e)) s G)

  module _ (a b s : List Ranked) (Ga : Gathered pn pe end rank q a) (Gb : Gathered qn qe end rank p b) (S : SharedIn m end rank p q s) where
    module _ (tie : ℕ → Bool) (v : ℕ) (inside : v < n) where
      abbrev K : Side
      K = side_of m n end rank tie (at quota)

      low : v < node_limit
      low = omega (arith, F.arrays.nodes)

      first : Sound (own K (flag p) (flag q) v) (get_or a v blank)
      first = gathered_sound m n end rank F.arrays p pn pe A.own light.0 (flag q) a Ga v low

      second : Sound (own K (flag q) (flag p) v) (get_or b v blank)
      second = gathered_sound m n end rank F.arrays q qn qe A.others light.1 (flag p) b Gb v low

      both : Sound (own K (flag p) (λ e. not (flag q e)) v) (get_or s v blank)
      both = S v low

      keys_are : keys_at a b s quota v ≡ (node_pairs (own K (flag p) (flag q) v) (own K (flag q) (flag p) v) (get_or s v blank)).keys
      keys_are = ap₂ (λ x y. (node_pairs x y (get_or s v blank)).keys)
          (gathered_is m n end rank F.arrays p pn pe A.own light.0 (flag q) a Ga v low)
          (gathered_is m n end rank F.arrays q qn qe A.others light.1 (flag p) b Gb v low)

      keys_length : length (keys_at a b s quota v) ≡ quota_limit
      keys_length = ap length keys_are ∙ node_keys_length K (flag p) (flag q) v F.arrays.ranks ((within tie).0 v) ((within tie).1 v) (F.few v)
          (get_or a v blank) (get_or b v blank) (get_or s v blank) first second both

      keys_low : (i : ℕ) → at (keys_at a b s quota v) i ≤ empty_key
      keys_low i = by_cases (dec_lt i (length (keys_at a b s quota v)))
          (λ h. node_keys_low K (flag p) (flag q) v F.arrays.ranks ((within tie).0 v) ((within tie).1 v) (F.few v)
          (get_or a v blank) (get_or b v blank) (get_or s v blank) first second both (at (keys_at a b s quota v) i)
          (subst (λ l. at (keys_at a b s quota v) i ∈ l) keys_are (get_d_∈ (keys_at a b s quota v) i 0 h)))
          (λ h. let short : length (keys_at a b s quota v) ≤ i = omega arith in omega (arith, get_or-eq_default (keys_at a b s quota v) 0 short))

      node_is : node_out a b s quota v ≡ facing_bytes (facing K (flag p) (flag q) v)
      node_is = ap (λ l. key_bytes (take (at quota v) l)) keys_are
          ∙ node_bytes K (flag p) (flag q) v F.arrays.ranks ((within tie).0 v) ((within tie).1 v) (F.few v)
          (get_or a v blank) (get_or b v blank) (get_or s v blank) first second both

    pub node_ready : (v : ℕ) → v < n → NodeReady a b s quota v
    node_ready v h = record {
      first = gathered_ready m n end rank F.arrays p pn pe A.own light.0 (flag q) a Ga v (low (λ e. false) v h);
      second = gathered_ready m n end rank F.arrays q qn qe A.others light.1 (flag p) b Gb v (low (λ e. false) v h);
      places = F.few v;
      keys = keys_length (λ e. false) v h;
      low = keys_low (λ e. false) v h;
    }

    pub side_is : (tie : ℕ → Bool) → side_out a b s quota n ≡ side_bytes (side_of m n end rank tie (at quota)) (flag p) (flag q)
    unfolding side_out
    side_is tie = gather_cong (node_out a b s quota) (λ v. facing_bytes (facing (side_of m n end rank tie (at quota)) (flag p) (flag q) v)) (range 0 n)
        (λ v i. let (l, h) = ∈_range n 0 i in node_is tie v (omega arith))

  pub side_length : (tie : ℕ → Bool) → length (side_bytes (side_of m n end rank tie (at quota)) (flag p) (flag q)) ≡ 2 * sum (at quota) (up_to n)
  side_length tie = side_bytes_length (side_of m n end rank tie (at quota)) (flag p) (flag q) F.arrays.ranks (within tie).0 (within tie).1

-- ---- both sides: the first at the buffer's front, the second behind it
both_written : (bs cs d : List ℕ) {out middle : List ℕ} (k : ℕ) → k ≡ length bs → length bs + length cs ≤ length d
    → middle ≡ written 0 bs d → out ≡ written k cs middle → out ≡ onto (bs ++ cs) d
both_written bs cs d k e h p q =
    let z : 0 + length bs ≡ k = omega arith in
    let n : 0 + length (bs ++ cs) ≡ length (bs ++ cs) = omega arith in
    q ∙ ap₂ (λ i w. written i cs w) (sym z) p ∙ written_more 0 bs cs d (omega arith) ∙ ap (λ k. (bs ++ cs) ++ drop k d) n

module _ {ns nt : ℕ} {sv st rank_s rank_t quota_s quota_t : List ℕ} {p : List Bool} {pn : ℕ} {pe : List ℕ} {q : List Bool} {qn : ℕ} {qe : List ℕ} where
  -- what is asked for the two sides, one by one
  abbrev pub asked_at_s : BothAsked ns nt sv st rank_s rank_t quota_s quota_t p pn pe q qn qe → Asked ns sv rank_s quota_s p pn pe q qn qe
  asked_at_s A = record { m = A.m; faced = A.at_s; own = A.own; others = A.others }

  abbrev pub asked_at_t : BothAsked ns nt sv st rank_s rank_t quota_s quota_t p pn pe q qn qe → Asked nt st rank_t quota_t p pn pe q qn qe
  asked_at_t A = record { m = A.m; faced = A.at_t; own = A.own; others = A.others }

  -- the pairings of one side at the buffer's front and of the other behind them are those of the vote
  pub plan_faced : (before : List ℕ) {middle after : List ℕ} (k : ℕ) → k ≡ 2 * sum (at quota_s) (up_to ns)
      → 2 * (sum (at quota_s) (up_to ns) + sum (at quota_t) (up_to nt)) ≤ length before
      → SideFaced ns sv rank_s quota_s p pn pe q qn qe 0 before middle → SideFaced nt st rank_t quota_t p pn pe q qn qe k middle after
      → PlanFaced ns nt sv st rank_s rank_t quota_s quota_t p pn pe q qn qe before after
  unfolding pairing_bytes
  plan_faced before k e h S T A sh tied =
      let ls = side_length (asked_at_s A) (λ e. false) in
      let lt = side_length (asked_at_t A) (flag tied) in
      both_written (side_bytes (side_of A.m ns sv rank_s (λ e. false) (at quota_s)) (flag p) (flag q))
      (side_bytes (side_of A.m nt st rank_t (flag tied) (at quota_t)) (flag p) (flag q))
      before k (omega (arith, ls)) (omega (arith, ls, lt)) (S (asked_at_s A) (λ e. false)) (T (asked_at_t A) (flag tied))
