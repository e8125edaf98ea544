-- Alternating paths: a start, a walk, an end; closed walks; and single edges with room at both ends. Where nothing comes twice each of them is
-- a valid exchange, so it makes a rival, and the vote against it is at most the cost. `AlternatingPath` with `Start`, `Stop`, `Apart` and the
-- votes at the ends are the four kinds of alternating paths that Lemma W speaks of.
use Rattle.std.specs.Prelude.{ℕ, ◌+◌, ◌≡◌, refl, ◌≢◌, Bool, List, [], ◌∷◌, ◌++◌, eqb}
use Rattle.std.proofs.Common.{zero-le, inl}
use native.Mathlib.Omega.{arith}
use Rattle.std.proofs.Math.Path.{ap}
use Rattle.lists.specs.Test.{bit, bit_one, eqb_yes}
use Rattle.lists.specs.Sum.{◌∈◌, sum, sum_append, occ, occ_∈}
use Rattle.lists.specs.Keep.{All, All-++}
use Rattle.lists.specs.Occur.{Once}
use Rattle.model.specs.Instance.{Instance, surveyors, stands}
use Rattle.model.specs.Vote.{edge, empty, same}
use Rattle.theory_instance.specs.Lawful.{Lawful, Matching}
use Rattle.theory_instance.specs.Walk.{Steps, Old, New, Walk, RoomS, RoomT, plus, minus}
use Rattle.theory_votes.specs.Exchange.{Couple, for, against, Moves}
use Rattle.theory_verdict.specs.LemmaX.{swapped, Rival, rival_cast, X-rival}
use Rattle.theory_verdict.specs.Arcs.{Link, heads, tails, fs, zs, heads_new, tails_new, tails_old, walk_plus, walk_minus, heads_old}
use Rattle.theory_verdict.specs.Arcs.{heads_link, tails_link, walk_old, walk_new}
use Rattle.theory_verdict.specs.Ends.{Way, lose, gain, fresh, free, yields, loss_of, yields_new, yields_old, end_plus, end_minus, end_cost}
use Rattle.theory_verdict.specs.Ends.{Opens, ends_moves, Joins, yields_link, Parted, parted}

module _ (G : Instance) where
  -- no node both gains and loses
  abbrev pub Apart : Way → ℕ → ℕ → Way → Type 0
  Apart lose x y lose = Unit {0}
  Apart lose x y (gain g) = G.sv g ≢ G.sv x
  Apart (gain f) x y lose = G.st f ≢ G.st y
  Apart (gain f) x y (gain g) = Unit {0}

  -- the votes at the start of a walk at x, and at its end at y
  abbrev pub start_plus : Way → ℕ → ℕ
  start_plus a x = end_plus G.rank_s x a

  abbrev pub start_minus : Way → ℕ → ℕ
  start_minus a x = end_minus G.rank_s x a

  abbrev pub stop_plus : ℕ → Way → ℕ
  stop_plus y b = end_plus G.rank_t y b

  abbrev pub stop_minus : ℕ → Way → ℕ
  stop_minus y b = end_minus G.rank_t y b

sum_three : {A : Type 0} (g : A → ℕ) (xs ys zs : List A) → sum g (xs ++ (ys ++ zs)) ≡ sum g xs + (sum g ys + sum g zs)
sum_three g xs ys zs = omega (arith, sum_append g xs (ys ++ zs), sum_append g ys zs)

-- the edges that come
abbrev pub comers : Way → Steps → Way → List ℕ
comers a w b = fresh a ++ (fs w ++ fresh b)

module _ (G : Instance) (M : ℕ → Bool) where
  -- the surveyor of x loses it, or x gives way to f there, and f has room at its stand
  abbrev pub Start : Way → ℕ → Type 0
  Start lose x = Unit {0}
  Start (gain f) x = New G M f × RoomT G M f × (G.sv f ≡ G.sv x)

  -- the stand of y loses it, or y gives way to g there, and g has room at its surveyor
  abbrev pub Stop : ℕ → Way → Type 0
  Stop y lose = Unit {0}
  Stop y (gain g) = New G M g × RoomS G M g × (G.st g ≡ G.st y)

  pub record AlternatingPath (a : Way) (x : ℕ) (w : Steps) (y : ℕ) (b : Way) : Type 0 where
    pub old : Old G M x
    pub walk : Walk G M x w y
    pub start : Start a x
    pub stop : Stop y b
    pub apart : Apart G a x y b

  -- ---- what they say on each side
  start_sides : (a : Way) (x : ℕ) → Start a x → Opens (stands G) M a × Joins (surveyors G) x a × All (New G M) (fresh a)
  start_sides lose x s = (tt, tt, tt)
  start_sides (gain f) x s = (s.1, s.2, (s.0, tt))

  stop_sides : (y : ℕ) (b : Way) → Stop y b → Opens (surveyors G) M b × Joins (stands G) y b × All (New G M) (fresh b)
  stop_sides y lose s = (tt, tt, tt)
  stop_sides y (gain g) s = (s.1, s.2, (s.0, tt))

  apart_sides : (a : Way) (x y : ℕ) (b : Way) → Apart G a x y b → Parted (stands G) a y b × Parted (surveyors G) b x a
  apart_sides lose x y lose h = (tt, tt)
  apart_sides lose x y (gain g) h = (tt, h)
  apart_sides (gain f) x y lose h = (h, tt)
  apart_sides (gain f) x y (gain g) h = (tt, tt)

  module _ (law : Lawful G) (plan : Matching G M) where
    -- ---- an alternating path
    module _ (a : Way) (x : ℕ) (w : Steps) (y : ℕ) (b : Way) (h : AlternatingPath a x w y b) where
      comers_occ : (e : ℕ) → occ e (comers a w b) ≡ occ e (fresh a) + (occ e (fs w) + occ e (fresh b))
      comers_occ e = sum_three (λ f. bit (eqb f e)) (fresh a) (fs w) (fresh b)

      c_t : List Couple
      c_t = heads x w ++ yields y b

      c_s : List Couple
      c_s = tails w ++ yields x a

      moves_t : Moves (stands G) M (x ∷ zs w) (comers a w b) (free a ++ c_t) (loss_of y b)
      unfolding c_t
      moves_t = ends_moves (stands G) M plan.at_t a (start_sides a x h.start).0 c_t
          (All-++ (Link G.st) (heads x w) (yields y b) (heads_link G M x w y h.walk) (yields_link (stands G) y b (stop_sides y b h.stop).1))
          (loss_of y b) (x ∷ zs w) (comers a w b) (parted (stands G) a y b (apart_sides a x y b h.apart).0)
          (λ e. omega (arith, sum_append (λ c. bit (same c.0 (edge e))) (heads x w) (yields y b), heads_old G M e x w y h.walk, yields_old y b e))
          (λ e. omega (arith, sum_append (λ c. bit (eqb c.1 e)) (heads x w) (yields y b), heads_new e x w, yields_new y b e, comers_occ e))

      moves_s : Moves (surveyors G) M (x ∷ zs w) (comers a w b) (free b ++ c_s) (loss_of x a)
      unfolding c_s
      moves_s = ends_moves (surveyors G) M plan.at_s b (stop_sides y b h.stop).0 c_s
          (All-++ (Link G.sv) (tails w) (yields x a) (tails_link G M x w y h.walk) (yields_link (surveyors G) x a (start_sides a x h.start).1))
          (loss_of x a) (x ∷ zs w) (comers a w b) (parted (surveyors G) b x a (apart_sides a x y b h.apart).1)
          (λ e. omega (arith, sum_append (λ c. bit (same c.0 (edge e))) (tails w) (yields x a), tails_old e w, yields_old x a e))
          (λ e. omega (arith, sum_append (λ c. bit (eqb c.1 e)) (tails w) (yields x a), tails_new e w, yields_new x a e, comers_occ e))

      news : All (New G M) (comers a w b)
      news = All-++ (New G M) (fresh a) (fs w ++ fresh b) (start_sides a x h.start).2
          (All-++ (New G M) (fs w) (fresh b) (walk_new G M x w y h.walk) (stop_sides y b h.stop).2)

      pub simple : Once (x ∷ zs w) → Once (comers a w b)
          → Rival G M (swapped M (x ∷ zs w) (comers a w b)) (minus G x w + (start_minus G a x + stop_minus G y b))
          (plus G x w + (start_plus G a x + stop_plus G y b))
      unfolding c_s c_t
      simple uR uF = rival_cast
          (X-rival G M (x ∷ zs w) (comers a w b) uR uF (h.old, walk_old G M x w y h.walk) news law (free b ++ c_s) (loss_of x a) (free a ++ c_t)
          (loss_of y b) moves_s moves_t
          x (omega (arith, ap bit (eqb_yes x x refl))))
          (omega (
            arith,
            walk_plus G x w,
            walk_minus G x w,
            sum_three (for G.rank_s) (free b) (tails w) (yields x a),
            sum_three (for G.rank_t) (free a) (heads x w) (yields y b),
            sum_three (against G.rank_s) (free b) (tails w) (yields x a),
            sum_three (against G.rank_t) (free a) (heads x w) (yields y b),
            end_cost G.rank_s G.rank_t x a,
            end_cost G.rank_t G.rank_s y b,
          ))

    -- ---- a closed walk
    pub simple_loop : (x : ℕ) (w : Steps) → Walk G M x w x → Once (zs w) → Once (fs w) → (e : ℕ) → e ∈ zs w
        → Rival G M (swapped M (zs w) (fs w)) (minus G x w) (plus G x w)
    simple_loop x w h uR uF e m = rival_cast
        (X-rival G M (zs w) (fs w) uR uF (walk_old G M x w x h) (walk_new G M x w x h) law (tails w) [] (heads x w) []
        (ends_moves (surveyors G) M plan.at_s lose tt (tails w) (tails_link G M x w x h) [] (zs w) (fs w)
        (λ v. inl refl) (λ e. omega (arith, tails_old e w)) (λ e. omega (arith, tails_new e w)))
        (ends_moves (stands G) M plan.at_t lose tt (heads x w) (heads_link G M x w x h) [] (zs w) (fs w)
        (λ v. inl refl) (λ e. omega (arith, heads_old G M e x w x h)) (λ e. omega (arith, heads_new e x w)))
        e (omega (arith, occ_∈ m)))
        (omega (arith, walk_plus G x w, walk_minus G x w))

    -- ---- an edge with room at both ends
    pub simple_direct : (f : ℕ) → New G M f → RoomS G M f → RoomT G M f → Rival G M (swapped M [] (f ∷ [])) 2 0
    simple_direct f nf rs rt = X-rival G M [] (f ∷ []) (λ e. zero-le) (λ e. omega (arith, bit_one (eqb f e))) tt (nf, tt) law ((empty, f) ∷ []) []
        ((empty, f) ∷ []) []
        (ends_moves (surveyors G) M plan.at_s (gain f) rs [] tt [] [] (f ∷ []) (λ v. inl refl) (λ e. refl) (λ e. omega arith))
        (ends_moves (stands G) M plan.at_t (gain f) rt [] tt [] [] (f ∷ []) (λ v. inl refl) (λ e. refl) (λ e. omega arith))
        f (omega (arith, ap bit (eqb_yes f f refl)))
