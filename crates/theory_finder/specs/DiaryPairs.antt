-- The diary in its own words: "The diary names only pairs of the roster and each of them at most once", and no rule names a pair that remains
-- when it ends: the steps are "all of them".
use Prim.Native.Nat.{ℕ, suc, ◌≤◌, ◌<◌}
use Rattle.std.proofs.Math.Nat.{suc_inj}
use Rattle.std.specs.Prelude.{◌≡◌, refl, not, List, [], ◌∷◌, map}
use Rattle.std.proofs.Common.{sym, ◌∙◌}
use Rattle.std.proofs.Math.Path.{ap, subst}
use mathlib.Core.List.Memᴰ
use Rattle.std.proofs.Math.Dec.{T}
use Rattle.lists.specs.Sum.{◌∈◌}
use Rattle.lists.specs.Keep.{get_d_∈}
use Rattle.lists.specs.Distinct.{Nodup}
use Rattle.model.specs.Limits.{shift_limit}
use Rattle.model.specs.Roster.{Roster, fits, listed}
use Rattle.model.specs.Edges.{Edge, edges_of, edge_at, no_edge, instance_of}
use Rattle.model.specs.Instance.{Instance}
use Rattle.model.specs.Reduction.{Rule, Step, rules, steps_of, end_of}
use Rattle.model.specs.PlanFile.{Named, name_of}
use Rattle.model.specs.Finder.{Record, record_of, diary_of, PairOf, pair_in}
use Rattle.theory_reduction.specs.Course.{steps_below, steps_once, end_quiet}
use Rattle.theory_reduction.specs.RuleNumbers.{names}
use Rattle.theory_files.specs.Ascending.{IsEdge, edge_is}
use Rattle.theory_files.specs.RosterInstance.{pairs_differ}

-- a fact of every element of a list
abbrev Every : (Rule → Type 0) → List Rule → Type 0
Every P [] = Unit {0}
Every P (x ∷ xs) = P x × Every P xs

every : (P : Rule → Type 0) (xs : List Rule) → Every P xs → (x : Rule) → x ∈ xs → P x
every P [] h x m = elim m [ ]
every P (y ∷ ys) h x (Memᴰ.head q) = subst P (sym q) h.0
every P (y ∷ ys) h x (Memᴰ.tail k) = every P ys h.1 x k

module _ (r : Roster) (ok : T (fits r)) where
  abbrev G : Instance
  G = instance_of r

  -- every edge is a pair of the roster
  edge_pair : (e : ℕ) → e < G.m → PairOf r (name_of G e)
  unfolding instance_of
  edge_pair e h =
      let x = edge_is r (edge_at (edges_of r) e) (get_d_∈ (edges_of r) e no_edge h) in
      record {
        i = x.i;
        j = x.j;
        pair = subst (λ k. T (listed r x.i x.j k)) (sym (shift_is x)) x.pair;
        surveyor_is = ap (λ y. suc y.surveyor) x.is;
        stand_is = ap (λ y. suc y.stand) x.is;
        shift_from = subst (λ k. 1 ≤ k) (sym (shift_is x)) x.k_from;
        shift_in = subst (λ k. k ≤ shift_limit) (sym (shift_is x)) x.k_in;
      }
    where
      shift_is : {x : Edge} (a : IsEdge r x) → x.shift ≡ a.k
      shift_is a = ap (λ y. y.shift) a.is

  -- each record of the diary names a pair of the roster
  pub diary_pairs : (x : Record) → x ∈ diary_of G → PairOf r (pair_in x)
  unfolding diary_of
  diary_pairs x k =
      let (s, m, e) = Memᴰ.of_map (record_of G) (steps_of G) k in
      subst (λ y. PairOf r (pair_in y)) e (edge_pair s.edge (steps_below G s m))

  -- two records of one pair are records of one edge
  once : (ss : List Step) → ((s : Step) → s ∈ ss → s.edge < G.m) → Nodup (map (λ s. s.edge) ss) → Nodup (map pair_in (map (record_of G) ss))
  once [] h u = tt
  once (s ∷ ss) h u = (
    (λ k.
        let (x, m, e) = Memᴰ.of_map pair_in (map (record_of G) ss) k in
        let (t, n, q) = Memᴰ.of_map (record_of G) ss m in
        let same : t.edge ≡ s.edge = pairs_differ r ok t.edge s.edge (h t (Memᴰ.tail n)) (h s (Memᴰ.head refl))
        (suc_inj (ap (λ y. y.surveyor) q ∙ ap (λ (p : Named). p.surveyor) e)) (suc_inj (ap (λ y. y.stand) q ∙ ap (λ (p : Named). p.stand) e))
        (ap (λ y. y.shift) q ∙ ap (λ (p : Named). p.shift) e) in
        u.0 (subst (λ z. z ∈ map (λ s. s.edge) ss) same (Memᴰ.map (λ s. s.edge) n))),
    once ss (λ t n. h t (Memᴰ.tail n)) u.1,
  )

  -- no two records name the same pair
  pub diary_once : Nodup (map pair_in (diary_of G))
  unfolding diary_of
  diary_once = once (steps_of G) (steps_below G) (steps_once G)

  -- at the end no rule names a pair that remains
  abbrev Silent : Rule → Type 0
  Silent R = (e : ℕ) → e < G.m → T ((end_of G).rem e) → T (not (R.names e))

  silent : Every Silent (rules G (end_of G))
  unfolding rules names
  silent = (end_quiet G 1, (end_quiet G 2, (end_quiet G 3, (end_quiet G 4, (end_quiet G 5, (end_quiet G 6, (end_quiet G 7, tt)))))))

  -- at the end none of the rules names a pair that remains
  pub diary_all : (R : Rule) → R ∈ rules G (end_of G) → (e : ℕ) → e < G.m → T ((end_of G).rem e) → T (not (R.names e))
  diary_all R = every Silent (rules G (end_of G)) silent R
