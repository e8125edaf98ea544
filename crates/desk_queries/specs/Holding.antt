-- What is held, told by the refusal that a call for an open proposal would meet: 13, 14, 20 or none.
use Rattle.std.specs.Prelude.{◌≡◌, ◌≢◌, refl, false}
use Rattle.std.proofs.Common.{arith, ap}
use Rattle.model_desk.specs.Desk.{Held, nothing, roster, planned, proposed, Level, bare, a_roster, a_plan, a_proposal, level_of, holds, said, holding}
use Rattle.model_desk.specs.Desk.{state_refusal, answer_of, lent_after, desk_after}
use Rattle.answers.specs.declared.Refusal.{Refusal}
use Rattle.answers.specs.declared.Refusal.TheVariants.{NoRoster, NoPlan}
use Rattle.answers.specs.RefusalCases.{number_of, number_some, same_number}
use Rattle.desk_files.specs.declared.Files.{Files}
use Rattle.desk_files.specs.Held.{held_of}
use Rattle.desk_files.specs.Replies.{Replied}
use Rattle.desk_files.specs.Open.{open_number}

-- what is held, by the refusal of a call that needs an open proposal
module _ (r : Refusal) where
  pub level_bare : (h : Held) → r ≡ NoRoster → number_of r ≡ open_number h false → bare ≡ level_of h
  level_bare nothing q e = refl
  level_bare (roster x) q e = absurd (omega (arith, ap number_of q, e))
  level_bare (planned x M) q e = absurd (omega (arith, ap number_of q, e))
  level_bare (proposed x M N) q e = absurd (omega (arith, ap number_of q, e))

  pub level_roster : (h : Held) → r ≡ NoPlan → number_of r ≡ open_number h false → a_roster ≡ level_of h
  level_roster nothing q e = absurd (omega (arith, ap number_of q, e))
  level_roster (roster x) q e = refl
  level_roster (planned x M) q e = absurd (omega (arith, ap number_of q, e))
  level_roster (proposed x M N) q e = absurd (omega (arith, ap number_of q, e))

  pub level_plan : (h : Held) → r ≢ NoRoster → r ≢ NoPlan → number_of r ≡ open_number h false → a_plan ≡ level_of h
  level_plan nothing a b e = absurd (a (same_number r NoRoster e))
  level_plan (roster x) a b e = absurd (b (same_number r NoPlan e))
  level_plan (planned x M) a b e = refl
  level_plan (proposed x M N) a b e = absurd (omega (arith, number_some r, e))

pub level_proposal : (h : Held) → 0 ≡ open_number h false → a_proposal ≡ level_of h
level_proposal nothing e = absurd (omega (arith, e))
level_proposal (roster x) e = absurd (omega (arith, e))
level_proposal (planned x M) e = absurd (omega (arith, e))
level_proposal (proposed x M N) e = refl

pub holds_reply : (d : Files) {x : Level} → x ≡ level_of (held_of d) → Replied d holds (said (holding x)) holds d
unfolding state_refusal answer_of lent_after desk_after
holds_reply d e = record {
  answer = ap (λ y. said (holding y)) e;
  lent = refl;
  desk = refl;
  stored = refl;
}
