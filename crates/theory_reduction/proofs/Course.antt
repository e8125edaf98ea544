-- The theorems that rest on specs/Course.antt. They stand here so that a wrong definition there is refused by a proof.
use Prim.Native.Nat.{ℕ}
use Rattle.lists.specs.Test.{given}
use Rattle.model.specs.Instance.{Instance}
use Rattle.model.specs.Reduction.{begin, state_after, end_of}
use Rattle.theory_instance.specs.Lawful.{Matching}
use Rattle.theory_reduction.specs.Quotas.{Sound, begin_sound}
use Rattle.theory_reduction.proofs.Quotas.{next_sound}
use Rattle.theory_reduction.specs.Course.{along}

module _ (G : Instance) where
  -- in particular the law of the cut quotas, at every state on the way
  pub sound_after : (n : ℕ) → Sound G (state_after G n (begin G))
  sound_after n = along G (λ n Z ss Y. Sound G Z → Sound G Y) (λ n Z h S. S) (λ n Z ss Y h ih S. ih (next_sound G Z S h)) n (begin G) (begin_sound G)

  -- what is fixed at the end is within the quotas
  pub end_matching : Matching G (end_of G).fixed
  unfolding end_of
  end_matching = given (sound_after G.m) (λ S. record { at_s = S.at_s.within; at_t = S.at_t.within })
