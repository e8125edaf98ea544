-- The vote with the ranks of both plans' edges taken from a choice is the vote under the choice: only the ranks of edges in one plan alone count.
use Rattle.std.specs.Prelude.{ℕ, ◌≤◌, ◌<◌, ◌≡◌, Bool, true, false, cond, List, length, take, ℤ}
use Rattle.std.proofs.Common.{arith, ap, ◌∙◌, subst, get_or-take, length-take-le}
use Rattle.std.proofs.Math.Path.{sym, ap₂}
use Rattle.std.proofs.Math.IntN.{◌+ℤ◌}
use Rattle.std.specs.Int.Signed.{mag}
use Rattle.lists.specs.Test.{if-ind}
use Rattle.lists.specs.Sum.{◌∈◌, range, ∈_range, up_to}
use Rattle.lists.specs.Keep.{∈_keep, get_d_∈}
use Rattle.model.specs.Limits.{empty_rank, entry_limit}
use Rattle.model.specs.Roster.{elem}
use Rattle.model.specs.Instance as model
use Rattle.model.specs.Instance.{deg}
use Rattle.model.specs.Vote.{sumℤ, node_vote, vote}
use Rattle.model.specs.PlanFile.{edges_in}
use Rattle.theory_instance.specs.Lawful.{Within, Matching}
use Rattle.theory_files.specs.Chosen.{elem_edges_in}
use Rattle.theory_ranges.proofs.Falls.{vote_alike}
use Rattle.theory_ranges.specs.Worst.{entry_s, entry_t, ranked_by}
use Rattle.arrays.specs.ArrayInstance.{at, flag}
use Rattle.instance.specs.declared.Instance.{Instance}
use Rattle.instance.specs.Decoded.{shown_by}
use Rattle.instance.specs.Loaded.{Loaded}
use Rattle.plan_lookup.specs.PlanEdges.{Listed}
use Rattle.vote_plans.specs.Plan.{Arrays, side_of}
use Rattle.ranges_choice.specs.Choosing.{EdgeList}
use Rattle.ranges_choice.specs.Chosen.{SideRanks}

-- the sum of the votes at the nodes of one side, whatever quotas both plans keep
pub record SideSum (m n : ℕ) (end rank : List ℕ) (p q : List Bool) (r : ℤ) : Type 0 where
  pub is : (tie : ℕ → Bool) (quota : ℕ → ℕ) → Within (side_of m n end rank tie quota) (flag p) → Within (side_of m n end rank tie quota) (flag q)
      → r ≡ sumℤ (node_vote (side_of m n end rank tie quota) (flag p) (flag q)) (up_to n)
  pub small : mag r ≤ 288

-- a plan's edges, listed
pub listed_edges : (m : ℕ) (f : List Bool) (n : ℕ) (es : List ℕ) → m ≤ entry_limit → Listed m f n es → EdgeList m n es
listed_edges m f n es h L = record { all = h; few = L.few; there = L.there; below = below }
  where
    below : (i : ℕ) → i < n → at es i < m
    below i h =
        let inside = subst (λ xs. at xs i ∈ edges_in m (flag f)) (sym L.are)
        (get_d_∈ (edges_in m (flag f)) i 0 (omega (arith, ap length L.are, length-take-le n es L.there))) in
        let b = ∈_range m 0 (∈_keep (flag f) (range 0 m) inside).0 in
        omega (arith, b.1, get_or-take n es i 0 h)

-- one side: the ranks of both plans' edges
module _ (m : ℕ) (place rank : ℕ → ℕ) (ws : List ℕ) (p q : List Bool) (pn qn : ℕ) (pe qe : List ℕ) (P : Listed m p pn pe) (Q : Listed m q qn qe)
    (o : List ℕ) (h : SideRanks m place rank (take pn pe) (take qn qe) ws o) where
  abbrev new : ℕ → ℕ
  new e = at ws (place e)

  listed : (f : List Bool) (n : ℕ) (es : List ℕ) → Listed m f n es → (e : ℕ) → e < m → elem e (take n es) ≡ flag f e
  listed f n es L e l = ap (elem e) L.are ∙ elem_edges_in m (flag f) e l

  pub in_first : (e : ℕ) → e < m → flag p e ≡ true → flag q e ≡ false → at o e ≡ new e
  in_first e l a b = h e l ∙ ap₂ (λ t u. cond t (new e) (cond u (new e) (rank e))) (listed q qn qe Q e l ∙ b) (listed p pn pe P e l ∙ a)

  pub in_second : (e : ℕ) → e < m → flag q e ≡ true → at o e ≡ new e
  in_second e l a = h e l ∙ ap (λ t. cond t (new e) (cond (elem e (take pn pe)) (new e) (rank e))) (listed q qn qe Q e l ∙ a)

  pub small : ((k : ℕ) → at ws k < empty_rank) → ((e : ℕ) → e < m → rank e < empty_rank) → (e : ℕ) → e < m → at o e < empty_rank
  small hw hr e l = subst (λ z. z < empty_rank) (sym (h e l))
      (if-ind (λ z. z < empty_rank) (elem e (take qn qe)) (λ t. hw (place e))
      (λ t. if-ind (λ z. z < empty_rank) (elem e (take pn pe)) (λ t. hw (place e)) (λ t. hr e l)))

module _ (g : Instance) (L : Loaded g) (p q : List Bool) (Mp : Matching (shown_by g) (flag p)) (Mq : Matching (shown_by g) (flag q)) (pn qn : ℕ)
    (pe qe ws : List ℕ) (P : Listed g.m p pn pe) (Q : Listed g.m q qn qe) (hw : (k : ℕ) → at ws k < empty_rank) (s t : List ℕ)
    (hS : SideRanks g.m (entry_s (shown_by g)) (at g.rank_s) (take pn pe) (take qn qe) ws s)
    (hT : SideRanks g.m (entry_t (shown_by g)) (at g.rank_t) (take pn pe) (take qn qe) ws t) where
  abbrev G : model.Instance
  G = shown_by g

  small_s : (e : ℕ) → e < g.m → at s e < empty_rank
  small_s = small g.m (entry_s G) (at g.rank_s) ws p q pn qn pe qe P Q s hS hw L.lawful.at_s.placed

  small_t : (e : ℕ) → e < g.m → at t e < empty_rank
  small_t = small g.m (entry_t G) (at g.rank_t) ws p q pn qn pe qe P Q t hT hw L.lawful.at_t.placed

  pub arrays : Arrays g.m g.ns g.sv s × Arrays g.m g.nt g.st t
  arrays = (
    record { edges = L.edges; nodes = L.surveyors; ends = λ e h. L.low_sv e; ranks = small_s },
    record { edges = L.edges; nodes = L.stands; ends = λ e h. L.low_st e; ranks = small_t },
  )

  pub vote_is : {v w : ℤ} → SideSum g.m g.ns g.sv s p q v → SideSum g.m g.nt g.st t p q w
      → (v +ℤ w) ≡ vote (ranked_by G ws) (flag p) (flag q)
  unfolding deg vote
  vote_is {v} {w} a b =
      ap₂ ◌+ℤ◌ (a.is (λ e. false) (at g.quota_s) Mp.at_s Mq.at_s) (b.is (flag g.tied) (at g.quota_t) Mp.at_t Mq.at_t)
      ∙ vote_alike G (flag p) (flag q) Mp Mq (λ e. at ws (entry_s G e)) (λ e. at ws (entry_t G e)) (at s) (at t)
      (λ e l. hw (entry_s G e)) (λ e l. hw (entry_t G e)) small_s small_t (
        (λ d l a b. sym (in_first g.m (entry_s G) (at g.rank_s) ws p q pn qn pe qe P Q s hS d l a b)),
        λ f l a b. sym (in_second g.m (entry_s G) (at g.rank_s) ws p q pn qn pe qe P Q s hS f l a),
      ) (
        (λ d l a b. sym (in_first g.m (entry_t G) (at g.rank_t) ws p q pn qn pe qe P Q t hT d l a b)),
        λ f l a b. sym (in_second g.m (entry_t G) (at g.rank_t) ws p q pn qn pe qe P Q t hT f l a),
      )
