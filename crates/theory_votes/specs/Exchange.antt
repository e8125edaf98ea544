-- An exchange makes N of M: edges R go, edges F come. On one side, surveyors or stands, it is told by couples, each an edge that
-- comes with what gives way to it there, an edge of M or an empty place, and by the edges lost there without anything in return.
-- No final statement names these; they carry Lemma X (Node.antt) and its converse (Converse.antt).
use Rattle.std.specs.Prelude.{ℕ, ◌+◌, ◌≤◌, ◌<◌, ◌≡◌, refl, ◌⊎◌, Bool, true, false, ◌&&◌, List, eqb}
use Rattle.std.proofs.Common.{arith, ap, ◌∙◌}
use Rattle.std.proofs.Math.Bool.{and_comm}
use Rattle.lists.specs.Test.{bit, pk, eqb_yes}
use Rattle.lists.specs.Sum.{◌∈◌, sum, sum_mem, up_to, occ, occ_∈}
use Rattle.lists.specs.Occur.{occ_<}
use Rattle.model.specs.Limits.{empty_rank}
use Rattle.model.specs.Instance.{Side, deg}
use Rattle.model.specs.Vote.{Place, edge, empty, same}
use Rattle.theory_instance.specs.Walk.{up}
use Rattle.theory_votes.specs.Score.{mark, mark_edges, mark_gained}
use Rattle.theory_votes.specs.Places.{same_refl}

-- what gives way, and what comes for it
abbrev pub Couple : Type 0
Couple = Place × ℕ

-- the vote of the one against the other, for and against
abbrev pub for : (ℕ → ℕ) → Couple → ℕ
for rank (edge d, f) = up (rank d) (rank f)
for rank (empty, f) = 0

-- 1 where what comes ranks better than what gives way, or where an empty place gives way
abbrev pub against : (ℕ → ℕ) → Couple → ℕ
against rank (edge d, f) = up (rank f) (rank d)
against rank (empty, f) = 1

pub mark_couple : (rank : ℕ → ℕ) (c : Couple) → rank c.1 < empty_rank → mark rank (c.0, edge c.1) + against rank c ≡ 1 + for rank c
mark_couple rank (edge d, f) h = mark_edges rank d f
mark_couple rank (empty, f) h = omega (arith, mark_gained rank f h)

-- ---- N is M without the edges R and with the edges F, none of them twice
pub record Swap (m : ℕ) (M N : ℕ → Bool) (R F : List ℕ) : Type 0 where
  pub goes : (e : ℕ) → pk (M e && N e) (occ e (up_to m)) + occ e R ≡ pk (M e) (occ e (up_to m))
  pub comes : (e : ℕ) → pk (M e && N e) (occ e (up_to m)) + occ e F ≡ pk (N e) (occ e (up_to m))

one_alone : (m : ℕ) (A B : ℕ → Bool) (e n : ℕ) → pk (A e && B e) (occ e (up_to m)) + n ≡ pk (A e) (occ e (up_to m)) → 0 < n
    → (A e ≡ true) × (B e ≡ false) × (e < m)
one_alone m A B e n = go (A e) (B e)
  where
    go : (x y : Bool) → pk (x && y) (occ e (up_to m)) + n ≡ pk x (occ e (up_to m)) → 0 < n → (x ≡ true) × (y ≡ false) × (e < m)
    go true true h k = absurd (omega arith)
    go true false h k = (refl, refl, occ_< m e (omega arith))
    go false y h k = absurd (omega arith)

module _ (m : ℕ) (M N : ℕ → Bool) (R F : List ℕ) (sw : Swap m M N R F) where
  -- an edge that goes is in M and not in N
  pub goer_is : (e : ℕ) → 0 < occ e R → (M e ≡ true) × (N e ≡ false) × (e < m)
  goer_is e = one_alone m M N e (occ e R) (sw.goes e)

  -- an edge that comes is in N and not in M
  pub comer_is : (e : ℕ) → 0 < occ e F → (N e ≡ true) × (M e ≡ false) × (e < m)
  comer_is e = one_alone m N M e (occ e F) (ap (λ b. pk b (occ e (up_to m)) + occ e F) (and_comm (N e) (M e)) ∙ sw.comes e)

-- ---- on one side: the couples cs, and the edges ls lost
-- how many edges are lost at a node
abbrev pub losses : Side → List ℕ → ℕ → ℕ
losses K ls v = sum (λ l. pk (eqb (K.end l) v) 1) ls

-- how many edges come to an empty place at a node
abbrev pub gains : Side → List Couple → ℕ → ℕ
gains K cs v = sum (λ c. pk (eqb (K.end c.1) v) (bit (same c.0 empty))) cs

-- they tell of R and F, every couple is at one node, no node gains beyond its quota, and none both loses and gains
pub record Moves (K : Side) (M : ℕ → Bool) (R F : List ℕ) (cs : List Couple) (ls : List ℕ) : Type 0 where
  pub gone : (e : ℕ) → sum (λ c. bit (same c.0 (edge e))) cs + occ e ls ≡ occ e R
  pub come : (e : ℕ) → sum (λ c. bit (eqb c.1 e)) cs ≡ occ e F
  pub meet : (c : Couple) → c ∈ cs → (d : ℕ) → c.0 ≡ edge d → K.end d ≡ K.end c.1
  pub room : (v : ℕ) → deg K M v + gains K cs v ≤ K.quota v
  pub apart : (v : ℕ) → (losses K ls v ≡ 0) ⊎ (gains K cs v ≡ 0)

module _ (K : Side) (M : ℕ → Bool) (R F : List ℕ) (cs : List Couple) (ls : List ℕ) (mv : Moves K M R F cs ls) where
  -- what comes in a couple is one of the edges F
  pub couple_comes : (c : Couple) → c ∈ cs → 0 < occ c.1 F
  couple_comes c k = omega (arith, mv.come c.1, sum_mem (λ d. bit (eqb d.1 c.1)) k, ap bit (eqb_yes c.1 c.1 refl))

  -- an edge that gives way in a couple is one of the edges R
  pub couple_goes : (c : Couple) → c ∈ cs → (d : ℕ) → c.0 ≡ edge d → 0 < occ d R
  couple_goes c k d e = omega (arith, mv.gone d, sum_mem (λ b. bit (same b.0 (edge d))) k, ap (λ p. bit (same p (edge d))) e, same_refl (edge d))

  -- a lost edge is one of the edges R
  pub loss_goes : (l : ℕ) → l ∈ ls → 0 < occ l R
  loss_goes l k = omega (arith, mv.gone l, occ_∈ k)
