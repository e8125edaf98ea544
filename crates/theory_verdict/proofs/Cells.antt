-- The theorems that rest on specs/Cells.antt. They stand here so that a wrong definition there is refused by a proof.
use Prim.Native.Nat.{ℕ, zero, suc, ◌<◌}
use native.Mathlib.Omega.{arith}
use Rattle.std.specs.Prelude.{◌≡◌, Bool, not, ◌&&◌, T, eqb}
use Rattle.std.proofs.Math.Path.{refl}
use Rattle.std.proofs.Common.{sym, subst, ltb→lt, lt→ltb, eqb→eq, T_not}
use mathlib.Core.List.Memᴰ
use mathlib.Core.List.{List}
use Rattle.lists.specs.Test.{and_l, and_r, and_i, eq→eqb, eqb_no, false_t}
use Rattle.lists.specs.Sum.{◌∈◌, range}
use Rattle.lists.specs.Keep.{keep_∈, ∈_keep, product, product_∈, ∈_product}
use Rattle.lists.specs.First.{best_≤, best_ind}
use Rattle.model.specs.Instance.{Instance, Side, surveyors, stands, deg}
use Rattle.theory_instance.specs.Walk.{Old, New, Arc}
use Rattle.theory_verdict.specs.Ends.{Way, lose, gain}
use Rattle.theory_verdict.specs.AlternatingPath.{Start, Stop, Apart}
use Rattle.theory_verdict.specs.Search.{price, terminal_price, apart?, news, room?, joins?, ways}
use Rattle.theory_verdict.specs.Search.{terminals_at, terminal, links?, arc, layer, walk_price, trace}
use Rattle.theory_verdict.specs.Table.{Arcs, Layer, Terminals, first_layer, next_layer}
use Rattle.theory_verdict.specs.Cells.{below_∈, next, ∈_below}

module _ (G : Instance) (M : ℕ → Bool) where
  new_∈ : (p : ℕ → Bool) {f : ℕ} → New G M f → T (p f) → f ∈ news G M p
  new_∈ p {f} n t = keep_∈ (λ f. not (M f) && p f) (range 0 G.m) (below_∈ G M n.0) (and_i (not (M f)) (p f) n.1 t)

  ∈_new : (p : ℕ → Bool) {f : ℕ} → f ∈ news G M p → New G M f × T (p f)
  ∈_new p {f} m = let (k, t) = ∈_keep (λ f. not (M f) && p f) (range 0 G.m) m in ((∈_below G M k, and_l (not (M f)) (p f) t), and_r (not (M f)) (p f) t)

  -- ---- the ends of one side: z is lost there, or gives way to an edge with room at its other side
  module _ (K J : Side) (z : ℕ) where
    joins_∈ : {f : ℕ} → New G M f → deg J M (J.end f) < J.quota (J.end f) → K.end f ≡ K.end z → gain f ∈ ways G M K J z
    joins_∈ {f} n r e = Memᴰ.tail (Memᴰ.map gain (new_∈ (joins? M K J z) n
        (and_i (eqb (K.end f) (K.end z)) (room? M J f) (eq→eqb (K.end f) (K.end z) e) (lt→ltb (deg J M (J.end f)) (J.quota (J.end f)) r))))

    ways_ind : (P : Way → Type 0) → P lose → ((f : ℕ) → New G M f → deg J M (J.end f) < J.quota (J.end f) → K.end f ≡ K.end z → P (gain f))
        → (b : Way) → b ∈ ways G M K J z → P b
    ways_ind P l g b (Memᴰ.head e) = subst P (sym e) l
    ways_ind P l g b (Memᴰ.tail m) =
        let (f, q, e) = Memᴰ.of_map gain (news G M (joins? M K J z)) m in
        let (n, t) = ∈_new (joins? M K J z) q in
        subst P e (g f n (ltb→lt (deg J M (J.end f)) (J.quota (J.end f)) (and_r (eqb (K.end f) (K.end z)) (room? M J f) t))
        (eqb→eq (K.end f) (K.end z) (and_l (eqb (K.end f) (K.end z)) (room? M J f) t)))

  start_∈ : (a : Way) (x : ℕ) → Start G M a x → a ∈ ways G M (surveyors G) (stands G) x
  start_∈ lose x s = Memᴰ.head refl
  start_∈ (gain f) x (n, r, e) = joins_∈ (surveyors G) (stands G) x n r e

  stop_∈ : (y : ℕ) (b : Way) → Stop G M y b → b ∈ ways G M (stands G) (surveyors G) y
  stop_∈ y lose s = Memᴰ.head refl
  stop_∈ y (gain g) (n, r, e) = joins_∈ (stands G) (surveyors G) y n r e

  ∈_start : (a : Way) (x : ℕ) → a ∈ ways G M (surveyors G) (stands G) x → Start G M a x
  ∈_start a x m = ways_ind (surveyors G) (stands G) x (λ a. Start G M a x) tt (λ f n r e. (n, r, e)) a m

  ∈_stop : (y : ℕ) (b : Way) → b ∈ ways G M (stands G) (surveyors G) y → Stop G M y b
  ∈_stop y b m = ways_ind (stands G) (surveyors G) y (Stop G M y) tt (λ g n r e. (n, r, e)) b m

  apart_test : (a : Way) (x y : ℕ) (b : Way) → Apart G a x y b → T (apart? G x y (a, b))
  apart_test lose x y lose h = tt
  apart_test lose x y (gain g) h = false_t (eqb_no (G.sv g) (G.sv x) h)
  apart_test (gain f) x y lose h = false_t (eqb_no (G.st f) (G.st y) h)
  apart_test (gain f) x y (gain g) h = tt

  test_apart : (a : Way) (x y : ℕ) (b : Way) → T (apart? G x y (a, b)) → Apart G a x y b
  test_apart lose x y lose t = tt
  test_apart lose x y (gain g) t = λ e. T_not (eqb (G.sv g) (G.sv x)) t (eq→eqb (G.sv g) (G.sv x) e)
  test_apart (gain f) x y lose t = λ e. T_not (eqb (G.st f) (G.st y)) t (eq→eqb (G.st f) (G.st y) e)
  test_apart (gain f) x y (gain g) t = tt

  pub terminals : Terminals G M (terminal G M)
  unfolding terminal
  terminals = record {
    low = λ a x y b s e d. best_≤ (λ p. (terminal_price G x y p, p)) (6, (lose, lose)) (terminals_at G M x y) (a, b)
        (keep_∈ (apart? G x y) (both x y)
        (product_∈ (ways G M (surveyors G) (stands G) x) (ways G M (stands G) (surveyors G) y) (start_∈ a x s) (stop_∈ y b e)) (apart_test a x y b d));
    hit = λ x y. best_ind (λ p. (terminal_price G x y p, p)) (Good x y) (6, (lose, lose)) (terminals_at G M x y) (tt, tt, tt, refl) (this x y);
  }
    where
      both : ℕ → ℕ → List (Way × Way)
      both x y = product (ways G M (surveyors G) (stands G) x) (ways G M (stands G) (surveyors G) y)

      Good : ℕ → ℕ → ℕ × (Way × Way) → Type 0
      Good x y (c, (a, b)) = Start G M a x × Stop G M y b × Apart G a x y b × (terminal_price G x y (a, b) ≡ c)

      this : (x y : ℕ) (p : Way × Way) → p ∈ terminals_at G M x y → Good x y (terminal_price G x y p, p)
      this x y (a, b) m =
          let (q, t) = ∈_keep (apart? G x y) (both x y) m in
          let (i, j) = ∈_product (a, b) (ways G M (surveyors G) (stands G) x) (ways G M (stands G) (surveyors G) y) q in
          (∈_start a x i, ∈_stop y b j, test_apart a x y b t, refl)

  module _ (lid : ℕ) where
    -- ---- the arcs
    arcs : Arcs G M lid (arc G M lid)
    unfolding arc
    arcs = record {
      low = λ x f z o (n, oz, d, s). best_≤ (λ f. (price G x f z, f)) (lid, 0) (news G M (links? G x z)) f
          (new_∈ (links? G x z) n (and_i (eqb (G.st f) (G.st x)) (eqb (G.sv f) (G.sv z)) (eq→eqb (G.st f) (G.st x) d) (eq→eqb (G.sv f) (G.sv z) s)));
      hit = λ x z ox oz. best_ind (λ f. (price G x f z, f)) (Good x z) (lid, 0) (news G M (links? G x z)) (λ h. absurd (omega arith))
          (λ f m h. this x z oz f m);
    }
      where
        Good : ℕ → ℕ → ℕ × ℕ → Type 0
        Good x z p = p.0 < lid → Arc G M x p.1 z × (price G x p.1 z ≡ p.0)

        this : (x z : ℕ) → Old G M z → (f : ℕ) → f ∈ news G M (links? G x z) → Arc G M x f z × (price G x f z ≡ price G x f z)
        this x z oz f m =
            let (n, t) = ∈_new (links? G x z) m in (
              (
                n,
                oz,
                eqb→eq (G.st f) (G.st x) (and_l (eqb (G.st f) (G.st x)) (eqb (G.sv f) (G.sv z)) t),
                eqb→eq (G.sv f) (G.sv z)
                    (and_r (eqb (G.st f) (G.st x)) (eqb (G.sv f) (G.sv z)) t),
              ),
              refl,
            )

    pub layers : (n : ℕ) → Layer G M lid (suc n) (walk_price G M lid n) (trace G M lid n)
    unfolding layer trace
    layers zero = first_layer G M arcs
    layers (suc n) = next_layer G M (omega arith) arcs (layers n) (next G M lid n)
