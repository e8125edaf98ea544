-- The theorems that rest on specs/RenumberedEdges.antt. They stand here so that a wrong definition there is refused by a proof.
use Prim.Native.Nat.{ℕ, suc, ◌≤◌, ◌<◌}
use Rattle.std.proofs.Common.{arith, ◌∙◌}
use Rattle.std.proofs.Math.Nat.{suc_inj}
use Rattle.std.specs.Prelude.{◌≡◌, refl, Bool, true, false, cond, List, [], ◌∷◌, map}
use Rattle.std.proofs.Math.Path.{sym, ap, subst}
use mathlib.Core.List.Memᴰ
use Rattle.std.proofs.Math.ListN.{length, get_or}
use Rattle.std.proofs.lemmas.List.{length-map}
use Rattle.std.proofs.Math.Dec.{T}
use Rattle.lists.specs.Test.{given}
use Rattle.lists.specs.Sum.{◌∈◌, range, range_∈, ∈_range, range_length}
use Rattle.lists.specs.Distinct.{Nodup, nodup_below, range_once}
use Rattle.lists.specs.Keep.{gather, ∈_gather, get_d_∈}
use Rattle.model.specs.Limits.{shift_limit}
use Rattle.model.specs.Instance.{Instance, surveyors, stands}
use Rattle.model.specs.Roster.{Roster, surveyor_count, stand_count, list_s, list_t, listed, shifts, fits}
use Rattle.model.specs.Edges.{Edge, position, pair_edge, edges_of, no_edge, edge_at, instance_of}
use Rattle.model.specs.PlanFile.{Named, name_of, edge_of_pair}
use Rattle.model_files.specs.Routes.{new_number, renumbered, way_back, pair_by}
use Rattle.theory_files.specs.Ascending.{IsEdge, edge_is}
use Rattle.theory_files.specs.PlanFiles.{found}
use Rattle.theory_files.specs.RosterInstance.{lawful, fileable}
use Rattle.theory_renamed.specs.Numberings.{Numbering, the_same}
use Rattle.theory_renamed.specs.RouteNumbers.{Names, new_place, old_place, new_suc, places, back_names}
use Rattle.theory_renamed.proofs.RouteNumbers.{back_twice, number_back}
use Rattle.theory_renamed.specs.RenumberedFits.{position_by, renumbered_counts, list_renumbered, ranking_renumbered, quota_renumbered, in_list}
use Rattle.theory_renamed.specs.RenumberedFits.{listed_renumbered}
use Rattle.theory_renamed.proofs.RenumberedFits.{fits_renumbered, renumbered_back}
use Rattle.theory_renamed.specs.Renaming.{Moved}
use Rattle.theory_renamed.specs.RenumberedEdges.{Becomes}

-- ---- a listed pair is an edge
place_in_law : {A : Type 0} {x : A} (d : A) (xs : List A) → x ∈ xs → (i : ℕ) × (i < length xs) × (get_or xs i d ≡ x)
place_in_law d [] m = elim m [ ]
place_in_law d (y ∷ xs) (Memᴰ.head e) = (0, omega arith, sym e)
place_in_law d (y ∷ xs) (Memᴰ.tail m) = given (place_in_law d xs m) (λ (i, l, e). (suc i, omega arith, e))

listed_edge : (r : Roster) (i j k : ℕ) → i < surveyor_count r → j < stand_count r → 1 ≤ k → k ≤ shift_limit → T (listed r i j k)
    → (e : ℕ) × (e < length (edges_of r)) × (edge_at (edges_of r) e ≡ pair_edge r i j k)
unfolding edges_of
listed_edge r i j k hi hj h₁ h₂ t = place_in_law no_edge (edges_of r)
    (∈_gather (λ i. gather (λ j. gather (one i j) shifts) (range 0 (stand_count r))) (range 0 (surveyor_count r))
    (range_∈ (surveyor_count r) 0 i (omega arith) (omega arith))
    (∈_gather (λ j. gather (one i j) shifts) (range 0 (stand_count r)) (range_∈ (stand_count r) 0 j (omega arith) (omega arith))
    (∈_gather (one i j) shifts (range_∈ shift_limit 1 k h₁ (omega arith)) (here (listed r i j k) t))))
  where
    one : ℕ → ℕ → ℕ → List Edge
    one i j k = cond (listed r i j k) (pair_edge r i j k ∷ []) []

    here : (b : Bool) → T b → pair_edge r i j k ∈ cond b (pair_edge r i j k ∷ []) []
    here true t = Memᴰ.head refl
    here false t = absurd t

module _ (route : List ℕ) (r : Roster) (ok : T (fits r)) (N : Names route (stand_count r)) where
  abbrev n : ℕ
  n = stand_count r

  abbrev R : Roster
  R = renumbered route r

  abbrev G : Instance
  G = instance_of r

  abbrev H : Instance
  H = instance_of R

  fits_r : T (fits R)
  fits_r = fits_renumbered route r ok N

  -- an edge's number in the renumbered roster
  abbrev new_edge : ℕ → ℕ
  new_edge e = edge_of_pair H (pair_by route (name_of G e))

  module _ (e : ℕ) (l : e < length (edges_of r)) where
    abbrev x : Edge
    x = edge_at (edges_of r) e

    is : IsEdge r x
    is = edge_is r x (get_d_∈ (edges_of r) e no_edge l)

    abbrev j' : ℕ → ℕ
    j' j = new_place route n N j

    -- the pair at the new number, and its ranks
    pair_listed : T (listed R is.i (j' is.j) is.k)
    pair_listed = subst T (sym (listed_renumbered route r ok N is.i (j' is.j) is.k is.i_in ((places route n N).into is.j is.j_in)
        ∙ ap (λ j. listed r is.i j is.k) ((places route n N).here is.j is.j_in))) is.pair

    pair_rank_s : (pair_edge R is.i (j' is.j) is.k).rank_s ≡ x.rank_s
    pair_rank_s =
        let v = j' is.j in
        let lv = (places route n N).into is.j is.j_in in
        ap (position (record { number = suc v; shift = is.k })) (list_renumbered route r ok N is.i is.i_in)
        ∙ position_by route n N v is.k lv (list_s r is.i) (in_list route r ok N is.i is.i_in)
        ∙ ap (λ j. position (record { number = suc j; shift = is.k }) (list_s r is.i)) ((places route n N).here is.j is.j_in)
        ∙ sym (ap (λ z. z.rank_s) is.is)

    pair_rank_t : (pair_edge R is.i (j' is.j) is.k).rank_t ≡ x.rank_t
    pair_rank_t =
        ap (λ S. position (record { number = suc is.i; shift = is.k }) S.strict)
        (ranking_renumbered route r ok N (j' is.j) ((places route n N).into is.j is.j_in)
        ∙ ap (list_t r) ((places route n N).here is.j is.j_in))
        ∙ sym (ap (λ z. z.rank_t) is.is)

    becomes : Becomes route G H e (new_edge e)
    unfolding instance_of renumbered
    becomes = given (listed_edge R is.i (j' is.j) is.k is.i_in
        (subst (λ m. j' is.j < m) (sym (renumbered_counts route r ok N).1) ((places route n N).into is.j is.j_in))
        is.k_from is.k_in pair_listed) at
      where
        at : (u : ℕ) × (u < length (edges_of R)) × (edge_at (edges_of R) u ≡ pair_edge R is.i (j' is.j) is.k) → Becomes route G H e (new_edge e)
        at (u, lu, d) = subst (Becomes route G H e) (sym found_u) (record {
          into = lu;
          name = name_u;
          rank_s = ap (λ z. z.rank_s) d ∙ pair_rank_s;
          rank_t = ap (λ z. z.rank_t) d ∙ pair_rank_t;
        })
          where
            name_u : name_of H u ≡ pair_by route (name_of G e)
            name_u = ap {B = Named} (λ z. record { surveyor = suc z.surveyor; stand = suc z.stand; shift = z.shift }) d
                ∙ ap {B = Named} (λ s. record { surveyor = suc is.i; stand = s; shift = is.k }) (new_suc route n N is.j)
                ∙ sym (ap {B = Named} (λ z. record { surveyor = suc z.surveyor; stand = new_number route (suc z.stand); shift = z.shift }) is.is)

            found_u : new_edge e ≡ u
            found_u = ap (edge_of_pair H) (sym name_u) ∙ found H (fileable R fits_r) u lu

  pub edge_becomes : (e : ℕ) → e < G.m → Becomes route G H e (new_edge e)
  unfolding instance_of
  edge_becomes e l = becomes e l

-- what goes somewhere and comes back is no more than what is there
as_many : (a b : ℕ) (f g : ℕ → ℕ) → ((i : ℕ) → i < a → f i < b) → ((i : ℕ) → i < a → g (f i) ≡ i) → a ≤ b
as_many a b f g into back = given (nodup_below b (map f (range 0 a)) (differ (range 0 a) (range_once 0 a) below) inside) (λ h.
    omega (arith, length-map (range 0 a) f, range_length 0 a))
  where
    below : (i : ℕ) → i ∈ range 0 a → i < a
    below i m = given (∈_range a 0 m).1 (λ h. omega arith)

    inside : (k : ℕ) → k ∈ map f (range 0 a) → k < b
    inside k m = given (Memᴰ.of_map f (range 0 a) m) (λ (i, l, e). subst (λ z. z < b) e (into i (below i l)))

    differ : (xs : List ℕ) → Nodup xs → ((i : ℕ) → i ∈ xs → i < a) → Nodup (map f xs)
    differ [] u h = tt
    differ (x ∷ xs) u h = (
      (λ m. given (Memᴰ.of_map f xs m) (λ (y, l, e). u.0 (subst (λ z. z ∈ xs)
          (sym (back y (h y (Memᴰ.tail l))) ∙ ap g e ∙ back x (h x (Memᴰ.head refl))) l))),
      differ xs u.1 (λ i m. h i (Memᴰ.tail m)),
    )

module _ (route : List ℕ) (r : Roster) (ok : T (fits r)) (N : Names route (stand_count r)) where
  abbrev back : List ℕ
  back = way_back route

  abbrev Q : Roster
  Q = renumbered route r

  names_q : Names back (stand_count Q)
  names_q = subst (Names back) (sym (renumbered_counts route r ok N).1) (back_names route (stand_count r) N)

  abbrev old_edge : ℕ → ℕ
  old_edge u = edge_of_pair (instance_of r) (pair_by back (name_of (instance_of Q) u))

  edge_came : (u : ℕ) → u < (instance_of Q).m → Becomes back (instance_of Q) (instance_of r) u (old_edge u)
  edge_came u l = subst (λ s. Becomes back (instance_of Q) (instance_of s) u (edge_of_pair (instance_of s) (pair_by back (name_of (instance_of Q) u))))
      (renumbered_back route r ok N) (edge_becomes back Q (fits_renumbered route r ok N) names_q u l)

  -- a name goes there and comes back
  name_back : (p : Named) → 1 ≤ p.stand → p.stand ≤ stand_count r → pair_by back (pair_by route p) ≡ p
  name_back p a b = ap {B = Named} (λ t. record { surveyor = p.surveyor; stand = t; shift = p.shift }) (number_back route (stand_count r) N p.stand a b)

  name_there : (p : Named) → 1 ≤ p.stand → p.stand ≤ stand_count r → pair_by route (pair_by back p) ≡ p
  name_there p a b = ap {B = Named} (λ t. record { surveyor = p.surveyor; stand = t; shift = p.shift })
      (ap (λ z. new_number z (new_number back p.stand)) (sym (back_twice route (stand_count r) N))
      ∙ number_back back (stand_count r) (back_names route (stand_count r) N) p.stand a b)

  edge_back : (e : ℕ) → e < (instance_of r).m → old_edge (new_edge route r ok N e) ≡ e
  unfolding instance_of
  edge_back e l = ap (λ p. edge_of_pair (instance_of r) (pair_by back p)) (edge_becomes route r ok N e l).name
      ∙ ap (edge_of_pair (instance_of r)) (name_back (name_of (instance_of r) e) (omega arith) ((lawful r ok).at_t.inside e l))
      ∙ found (instance_of r) (fileable r ok) e l

  edge_there : (u : ℕ) → u < (instance_of Q).m → new_edge route r ok N (old_edge u) ≡ u
  unfolding instance_of
  edge_there u l = ap (λ p. edge_of_pair (instance_of Q) (pair_by route p)) (edge_came u l).name
      ∙ ap (edge_of_pair (instance_of Q)) (name_there (name_of (instance_of Q) u) (omega arith)
      (subst (λ m. (instance_of Q).st u < m) (renumbered_counts route r ok N).1 ((lawful Q fits_q).at_t.inside u l)))
      ∙ found (instance_of Q) (fileable Q fits_q) u l
    where
      fits_q : T (fits Q)
      fits_q = fits_renumbered route r ok N

  -- ---- the instance under other numbers
  -- as many edges, as none is lost either way
  edge_count : (instance_of Q).m ≡ (instance_of r).m
  edge_count = given (as_many (instance_of r).m (instance_of Q).m (new_edge route r ok N) old_edge (λ e l. (edge_becomes route r ok N e l).into) edge_back)
      (λ a. given (as_many (instance_of Q).m (instance_of r).m old_edge (new_edge route r ok N) (λ u l. (edge_came u l).into) edge_there) (λ b. omega arith))

  pub by_edge : Numbering (instance_of r).m (new_edge route r ok N) old_edge
  by_edge = record {
    into = λ e l. subst (λ m. new_edge route r ok N e < m) edge_count (edge_becomes route r ok N e l).into;
    back = λ u l. (edge_came u (subst (λ m. u < m) (sym edge_count) l)).into;
    there = λ u l. edge_there u (subst (λ m. u < m) (sym edge_count) l);
    here = edge_back;
  }

  pub surveyors_moved : Moved (surveyors (instance_of Q)) (surveyors (instance_of r)) (new_edge route r ok N) old_edge (λ v. v) (λ v. v)
  unfolding instance_of renumbered
  surveyors_moved = record {
    edges = edge_count;
    nodes = refl;
    by_edge = by_edge;
    by_node = the_same (surveyor_count r);
    end = λ e l. suc_inj (ap (λ p. p.surveyor) (edge_becomes route r ok N e l).name);
    rank = λ e l. (edge_becomes route r ok N e l).rank_s;
    quota = λ v l. refl;
    inside = (lawful r ok).at_s.inside;
  }

  pub stands_moved : Moved (stands (instance_of Q)) (stands (instance_of r)) (new_edge route r ok N) old_edge
      (new_place route (stand_count r) N) (old_place route (stand_count r) N)
  unfolding instance_of
  stands_moved = record {
    edges = edge_count;
    nodes = (renumbered_counts route r ok N).1;
    by_edge = by_edge;
    by_node = places route (stand_count r) N;
    end = λ e l. given (ap (λ p. p.stand) (edge_becomes route r ok N e l).name) (λ d. omega arith);
    rank = λ e l. (edge_becomes route r ok N e l).rank_t;
    quota = λ v l. quota_renumbered route r ok N (new_place route (stand_count r) N v) ((places route (stand_count r) N).into v l)
        ∙ ap (λ j. get_or r.quotas_t j 0) ((places route (stand_count r) N).here v l);
    inside = (lawful r ok).at_t.inside;
  }
