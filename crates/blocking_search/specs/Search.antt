-- From the numbers that the passes compute to the model's blocking pairs: the first edge that is wanted at both its ends is the first that blocks.
use Rattle.std.specs.Prelude.{ℕ, ◌+◌, ◌≤◌, ◌<◌, ◌≡◌, Bool, true, false, List}
use Rattle.std.proofs.Common.{add-one, ap₂, ◌∙◌, subst, lt-ltb}
use Rattle.std.proofs.Math.Path.{sym, ap}
use Rattle.std.proofs.Math.Bool.{not, ◌&&◌}
use Rattle.model.specs.Instance as model
use Rattle.model.specs.Blocking.{yields, blocks, top_of, top_blocking}
use Rattle.arrays.specs.ArrayInstance.{at, flag, shown}
use Rattle.std.specs.declared.option.Option.TheVariants.{None, Some}
use Rattle.answers.specs.declared.Blocking.{Blocking}
use Rattle.instance.specs.declared.Instance.{Instance}
use Rattle.instance.specs.Loaded.{Loaded}
use Rattle.blocking_thresholds.specs.Threshold.{Edges, Thresholds, side_of}
use Rattle.blocking_search.specs.Wanted.{Placed, wanted}
use Rattle.theory_instance.specs.TopBlocking.{top_cong, top_below, top_behind}
use Rattle.blocking_search.specs.Blocking.{named, blocked_by}

module _ (m : ℕ) (sv st rs rt qs qt ls lt : List ℕ) (p : List Bool) (os : Placed m rs) (ot : Placed m rt) (hs : Thresholds m sv rs qs p ls)
    (ht : Thresholds m st rt qt p lt)
    (ns nt : ℕ) (sh : List ℕ) (tied : List Bool) where
  abbrev G : model.Instance
  G = shown m ns nt sv st rs rt sh tied qs qt

  is_wanted : (e : ℕ) → e < m → wanted sv st rs rt ls lt p e ≡ blocks G (flag p) e
  unfolding blocks
  is_wanted e h =
      ap (λ z. not (flag p e) && z) (ap₂ ◌&&◌ (hs ns (λ d. false) e h (os e h)) (ht nt (flag tied) e h (ot e h)))
      ∙ sym
      (ap
      (λ z. z && (not (flag p e) && (yields (side_of m ns sv rs qs (λ d. false)) (flag p) e && yields (side_of m nt st rt qt (flag tied)) (flag p) e)))
      (lt-ltb e m h))

  top_is_wanted : top_of (at sv) (at rs) m (wanted sv st rs rt ls lt p) ≡ top_blocking G (flag p)
  unfolding top_blocking
  top_is_wanted = top_cong (at sv) (at rs) m (wanted sv st rs rt ls lt p) (blocks G (flag p)) is_wanted

  -- the edge named is the model's, and there is one exactly if some edge blocks
  pub answer_yes : (e : ℕ) → e ≡ top_of (at sv) (at rs) m (wanted sv st rs rt ls lt p) → e < m
      → Some (record { surveyor = at sv e + 1; stand = at st e + 1; shift = at sh e }) ≡ blocked_by G p
  answer_yes e q h =
      let s = q ∙ top_is_wanted in
      ap₂ (λ x y. Some (record { surveyor = x; stand = y; shift = at sh e })) (add-one (at sv e)) (add-one (at st e)) ∙ ap (λ d. named G d true) s
      ∙ sym (ap (named G (top_blocking G (flag p))) (top_below G (flag p) os (subst (λ z. z < m) s h)))

  pub answer_no : m ≤ top_of (at sv) (at rs) m (wanted sv st rs rt ls lt p) → None ≡ blocked_by G p
  answer_no h = sym (ap (named G (top_blocking G (flag p))) (top_behind G (flag p) os (subst (λ z. m ≤ z) top_is_wanted h)))

-- the arrays of an accepted roster, and the list of a plan's edges, are what the search asks for
pub may_search : (g : Instance) → Loaded g → Edges g.m g.sv × Edges g.m g.st × Placed g.m g.rank_s × Placed g.m g.rank_t
may_search g L = (
  record { edges = L.edges; ends = λ e h. L.low_sv e },
  record { edges = L.edges; ends = λ e h. L.low_st e },
  L.lawful.at_s.placed,
  L.lawful.at_t.placed,
)
