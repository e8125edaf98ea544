-- The theorems that rest on specs/AlternatingPath.antt. They stand here so that a wrong definition there is refused by a proof.
use Rattle.std.specs.Prelude.{ℕ, ◌+◌, ◌<◌, Bool, not, T}
use Rattle.std.proofs.Common.{arith, inl, inr}
use Rattle.std.proofs.Math.Logic.{⊎_map}
use Rattle.model.specs.Instance.{Instance, Side, surveyors, stands}
use Rattle.theory_instance.specs.Walk.{up, up_one, up_yes, up_no, New, NoBad}
use Rattle.theory_reduction.specs.Reach.{stay, join, loosen}
use Rattle.theory_reduction.specs.PlanAgainstArrows.{Blocks}
use Rattle.theory_reduction.specs.AlternatingPath.{Arrival, Back, Forth, Welcome, gained, hop, lost, no_gL, no_lG, no_lL}

module _ {G : Instance} {M rem : ℕ → Bool} where
  module _ (W : NoBad G M) where
    -- a way back to x and a way forth from it
    pub no_back_forth : {x : ℕ} → Back G M rem x → Forth G M rem x → ⊥
    no_back_forth b (lost y iy r) = no_lL {G = G} {M = M} {rem = rem} W b.from_in (loosen 0 0 2 (join b.way r) (omega arith) (omega arith))
    no_back_forth b (gained y f c d nf rm i r h) = no_lG {G = G} {M = M} {rem = rem} W f 1 nf rm
        (record { from = b.from; at = y; c = 0 + c; d = 1 + d; from_in = b.from_in; way = join b.way r; stand = i; cost = omega arith })
        (λ e. omega (arith, up_one (G.rank_s b.from) (G.rank_s f)))

    -- an arrival of at most 0 where the surveyor has room or a worse edge
    pub no_arrival : (f : ℕ) → New G M f → Arrival G M rem f 0 1 → Blocks (surveyors G) M rem f → ⊥
    no_arrival f nf A (inl rm) = no_lG {G = G} {M = M} {rem = rem} W f 1 nf rm A (λ e. omega (arith, up_one (G.rank_s A.from) (G.rank_s f)))
    no_arrival f nf A (inr (y, iy, i, w)) = no_lL {G = G} {M = M} {rem = rem} W A.from_in (loosen 0 0 2 (join A.way
        (hop {G = G} {M = M} {rem = rem} (up (G.rank_t A.at) (G.rank_t f)) (up (G.rank_t f) (G.rank_t A.at) + 1) nf iy A.stand i
        (omega (arith, up_no (G.rank_s y) (G.rank_s f) (omega arith), up_yes (G.rank_s f) (G.rank_s y) w))))
        (omega arith) (omega arith))

    -- no edge outside the plan blocks at both ends
    pub no_both_block : (f : ℕ) → New G M f → Blocks (surveyors G) M rem f → Blocks (stands G) M rem f → ⊥
    no_both_block f nf (inl a) (inl b) = W.direct f nf a b
    no_both_block f nf (inr (y, iy, i, w)) (inl b) = no_gL {G = G} {M = M} {rem = rem} W f 1 y y 0 0 nf b iy i (stay y)
        (omega (arith, up_no (G.rank_s y) (G.rank_s f) (omega arith), up_yes (G.rank_s f) (G.rank_s y) w))
        (λ e. omega (arith, up_one (G.rank_t y) (G.rank_t f)))
    no_both_block f nf bs (inr (x, ix, i, w)) = no_arrival f nf
        (record {
          from = x;
          at = x;
          c = 0;
          d = 0;
          from_in = ix;
          way = stay x;
          stand = i;
          cost = omega (arith, up_no (G.rank_t x) (G.rank_t f) (omega arith), up_yes (G.rank_t f) (G.rank_t x) w);
        }) bs

-- every edge of the plan counts as remaining
blocks : (K : Side) (M : ℕ → Bool) (f : ℕ) → Welcome K M f → Blocks K M M f
blocks K M f = ⊎_map (λ r. r) (λ (x, l, t, i, w). (x, record { lt = l; mem = t; left = t }, i, w))

-- no edge outside a plan that Lemma W holds of is welcome at both its ends
pub no_blocking : {G : Instance} {M : ℕ → Bool} → NoBad G M → (f : ℕ) → f < G.m → T (not (M f)) → Welcome (surveyors G) M f → Welcome (stands G) M f → ⊥
no_blocking {G} {M} W f l n s t = no_both_block W f (l, n) (blocks (surveyors G) M f s) (blocks (stands G) M f t)
