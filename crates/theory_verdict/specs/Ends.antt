-- The two ends of a walk, as one side sees them: at one end an edge may come into a free place, at the other an edge of M is lost or
-- gives way. With couples in between, in each of which an edge gives way, they are the moves of an exchange on that side. Surveyors
-- and stands have the same lemmas: what is an end of the one kind at the surveyors is one of the other kind at the stands.
use Rattle.std.specs.Prelude.{ℕ, ◌+◌, ◌≤◌, ◌<◌, ◌≡◌, refl, ◌⊎◌, ◌≢◌, Bool, List, [], ◌∷◌, ◌++◌, length, eqb}
use Rattle.std.proofs.Common.{arith, sym, ap, ◌∙◌, inl, inr, ⊎_elim}
use mathlib.Core.List.Memᴰ
use Rattle.lists.specs.Test.{bit, pk, by-eq, eqb_no}
use Rattle.lists.specs.Sum.{◌∈◌, sum, sum_append, occ}
use Rattle.lists.specs.Keep.{All, All-∈}
use Rattle.model.specs.Instance.{Side, deg}
use Rattle.model.specs.Vote.{edge, empty, same}
use Rattle.theory_instance.specs.Lawful.{Within}
use Rattle.theory_instance.specs.Walk.{up}
use Rattle.theory_votes.specs.Exchange.{Couple, for, against, losses, gains, Moves}
use Rattle.theory_verdict.specs.Arcs.{Link, link_meet, links_gain}

-- how a walk starts or ends: the edge of M there is lost, or f is gained
pub data Way : Type 0 where
  lose : Way
  gain : ℕ → Way

-- the edge that comes at an end, if one is gained there
abbrev pub fresh : Way → List ℕ
fresh lose = []
fresh (gain f) = f ∷ []

-- what is gained comes into a free place; at its other end the edge z of M gives way to it, or is lost
abbrev pub free : Way → List Couple
free lose = []
free (gain f) = (empty, f) ∷ []

abbrev pub yields : ℕ → Way → List Couple
yields z lose = []
yields z (gain f) = (edge z, f) ∷ []

abbrev pub loss_of : ℕ → Way → List ℕ
loss_of z lose = z ∷ []
loss_of z (gain f) = []

-- ---- counts
free_new : (p : Way) (e : ℕ) → sum (λ c. bit (eqb c.1 e)) (free p) ≡ occ e (fresh p)
free_new lose e = refl
free_new (gain f) e = refl

free_old : (p : Way) (e : ℕ) → sum (λ c. bit (same c.0 (edge e))) (free p) ≡ 0
free_old lose e = refl
free_old (gain f) e = refl

free_meet : (p : Way) (c : Couple) → c ∈ free p → (d : ℕ) → c.0 ≡ edge d → ⊥
free_meet lose c k d e = Memᴰ.not-nil k
free_meet (gain f) c (Memᴰ.head i) d e = let z : ◌≡◌ {A = ℕ} 0 1 = cc (ap (λ b. b.0) i) in omega arith
free_meet (gain f) c (Memᴰ.tail k) d e = Memᴰ.not-nil k

pub yields_new : (z : ℕ) (q : Way) (e : ℕ) → sum (λ c. bit (eqb c.1 e)) (yields z q) ≡ occ e (fresh q)
yields_new z lose e = refl
yields_new z (gain f) e = refl

pub yields_old : (z : ℕ) (q : Way) (e : ℕ) → sum (λ c. bit (same c.0 (edge e))) (yields z q) + occ e (loss_of z q) ≡ bit (eqb z e)
yields_old z lose e = omega arith
yields_old z (gain f) e = omega arith

-- ---- the votes at an end, for and against: of both sides, `rank` where z gives way
abbrev pub end_plus : (ℕ → ℕ) → ℕ → Way → ℕ
end_plus rank z lose = 1
end_plus rank z (gain f) = up (rank z) (rank f)

abbrev pub end_minus : (ℕ → ℕ) → ℕ → Way → ℕ
end_minus rank z lose = 0
end_minus rank z (gain f) = up (rank f) (rank z) + 1

pub end_cost : (rank other : ℕ → ℕ) (z : ℕ) (q : Way) → (sum (for rank) (yields z q) + length (loss_of z q) ≡ end_plus rank z q) × (sum (for other) (free q) ≡ 0)
    × (sum (against rank) (yields z q) + sum (against other) (free q) ≡ end_minus rank z q)
end_cost rank other z lose = omega arith
end_cost rank other z (gain f) = omega arith

-- ---- the moves
module _ (K : Side) (M : ℕ → Bool) where
  -- where an edge is gained, there is room
  abbrev pub Opens : Way → Type 0
  Opens lose = Unit {0}
  Opens (gain f) = deg K M (K.end f) < K.quota (K.end f)

  free_room : Within K M → (p : Way) → Opens p → (v : ℕ) → deg K M v + gains K (free p) v ≤ K.quota v
  free_room w lose o v = omega (arith, w v)
  free_room w (gain f) o v = by-eq (K.end f) v
      (λ e t. omega (arith, ap (deg K M) e, ap K.quota e, ap (λ b. pk b 1) t))
      (λ n t. omega (arith, w v, ap (λ b. pk b 1) t))

  pub ends_moves : Within K M → (p : Way) → Opens p → (cs : List Couple) → All (Link K.end) cs → (ls R F : List ℕ)
      → ((v : ℕ) → (losses K ls v ≡ 0) ⊎ (gains K (free p) v ≡ 0))
      → ((e : ℕ) → sum (λ c. bit (same c.0 (edge e))) cs + occ e ls ≡ occ e R)
      → ((e : ℕ) → occ e (fresh p) + sum (λ c. bit (eqb c.1 e)) cs ≡ occ e F) → Moves K M R F (free p ++ cs) ls
  ends_moves w p o cs links ls R F apart gone come = record {
    gone = λ e. omega (arith, sum_append (λ c. bit (same c.0 (edge e))) (free p) cs, free_old p e, gone e);
    come = λ e. omega (arith, sum_append (λ c. bit (eqb c.1 e)) (free p) cs, free_new p e, come e);
    meet = λ c k d e. ⊎_elim (λ j. absurd (free_meet p c j d e)) (λ j. link_meet K.end c (All-∈ (Link K.end) cs links c j) d e)
        (Memᴰ.append_cases (free p) k);
    room = λ v. omega (arith, gain_all v, free_room w p o v);
    apart = λ v. ⊎_elim inl (λ g. inr (omega (arith, gain_all v))) (apart v);
  }
    where
      gain_all : (v : ℕ) → gains K (free p ++ cs) v ≡ gains K (free p) v
      gain_all v = omega (arith, sum_append (λ c. pk (eqb (K.end c.1) v) (bit (same c.0 empty))) (free p) cs, links_gain K cs links v)

module _ (K : Side) where
  -- at the other end the edge that comes is at z's node
  abbrev pub Joins : ℕ → Way → Type 0
  Joins z lose = Unit {0}
  Joins z (gain f) = K.end f ≡ K.end z

  pub yields_link : (z : ℕ) (q : Way) → Joins z q → All (Link K.end) (yields z q)
  yields_link z lose j = tt
  yields_link z (gain f) j = (sym j, tt)

  -- no node both gains and loses
  abbrev pub Parted : Way → ℕ → Way → Type 0
  Parted lose z q = Unit {0}
  Parted (gain f) z lose = K.end f ≢ K.end z
  Parted (gain f) z (gain g) = Unit {0}

  pub parted : (p : Way) (z : ℕ) (q : Way) → Parted p z q → (v : ℕ) → (losses K (loss_of z q) v ≡ 0) ⊎ (gains K (free p) v ≡ 0)
  parted lose z q h v = inr refl
  parted (gain f) z lose h v = by-eq (K.end f) v
      (λ e t. inl (omega (arith, ap (λ b. pk b 1) (eqb_no (K.end z) v (λ d. h (e ∙ sym d))))))
      (λ n t. inr (omega (arith, ap (λ b. pk b 1) t)))
  parted (gain f) z (gain g) h v = inl refl
