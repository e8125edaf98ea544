-- Both least rates of one walk, all that may be gained and what is apart from a node: what is held while the edges from f on are still to come.
use Rattle.std.specs.Prelude.{ℕ, ◌+◌, ◌≤◌, ◌<◌, ◌≡◌, Bool, true, false, not, List, eqb}
use Rattle.std.proofs.Common.{sym, ap, ◌∙◌}
use Rattle.theory_votes.specs.Score.{rate}
use Rattle.arrays.specs.ArrayInstance.{at}
use Rattle.rival_tables.specs.Visits.{Passed}
use Rattle.rival_tables.specs.Cheapest.{offer}
use Rattle.rival_gains.specs.Gains.{gainable, gainable_other, gain_price, gain_price_but, gain_rest, gain_rest_but, gain_start, gain_end, gain_turn}
use Rattle.rival_gains.specs.Gains.{but_start, but_end, but_past, but_turn}

module _ (m : ℕ) (end other rank : List ℕ) (plan room : List Bool) (e b d : ℕ) where
  -- the best of the edges from f on and of what is held is the best of all
  abbrev pub Held : ℕ → ℕ → ℕ → Type 0
  Held all apart f =
      (gain_rest m end other rank plan room e b all f ≡ gain_price m end other rank plan room 6 e b)
      × (gain_rest_but m end other rank plan room e b d apart f ≡ gain_price_but m end other rank plan room 3 e b d)

  pub held_start : Held 6 3 0
  held_start = (gain_start m end other rank plan room e b 6, but_start m end other rank plan room e b d 3)

  -- an edge that may not be gained changes nothing
  pub held_past : (all apart f : ℕ) → f < m → gainable end other plan room e f ≡ false → Held all apart f → Held all apart (f + 1)
  held_past all apart f l q (a, b') = (
    sym (gain_turn m end other rank plan room e b all f l
        ∙ ap (λ t. gain_rest m end other rank plan room e b (offer t (rate b (at rank f)) all) (f + 1)) q) ∙ a,
    sym (but_past m end other rank plan room e b d apart f l q) ∙ b',
  )

  -- one that may be gained is offered to both
  pub held_turn : (all apart f : ℕ) → f < m → gainable end other plan room e f ≡ true → Held all apart f
      → Held (offer true (rate b (at rank f)) all) (offer (not (eqb (at other f) d)) (rate b (at rank f)) apart) (f + 1)
  held_turn all apart f l q (a, b') = (
    sym (gain_turn m end other rank plan room e b all f l
        ∙ ap (λ t. gain_rest m end other rank plan room e b (offer t (rate b (at rank f)) all) (f + 1)) q) ∙ a,
    sym (but_turn m end other rank plan room e b d apart f l q) ∙ b',
  )

  -- an edge of another node changes nothing
  pub held_others : (all apart : ℕ) → Passed m end e (Held all apart)
  held_others all apart f l n = held_past all apart f l (gainable_other end other plan room e f n)

  -- by equal rates
  pub held_as : (f : ℕ) {all apart all' apart' : ℕ} → all' ≡ all → apart' ≡ apart → Held all apart f → Held all' apart' f
  held_as f p q h = (
    ap (λ v. gain_rest m end other rank plan room e b v f) p ∙ h.0,
    ap (λ v. gain_rest_but m end other rank plan room e b d v f) q ∙ h.1,
  )

  -- behind the last edge
  pub held_end : (all apart f : ℕ) → m ≤ f → Held all apart f
      → (all ≡ gain_price m end other rank plan room 6 e b) × (apart ≡ gain_price_but m end other rank plan room 3 e b d)
  held_end all apart f h (a, b') = (sym (gain_end m end other rank plan room e b all f h) ∙ a, sym (but_end m end other rank plan room e b d apart f h) ∙ b')
