-- What the desk's calls for C answer: the numbers in the model's answer, and all that the desk promises.
use Rattle.std.specs.Prelude.{ℕ, ◌≡◌, refl, List, Result}
use Rattle.std.specs.declared.result.Result.TheVariants.{Ok, Err}
use Rattle.std.proofs.Common.{sym, ap, ◌∙◌, subst}
use Rattle.std.proofs.Math.Option.{some}
use Rattle.model.specs.Roster.{Roster}
use Rattle.model.specs.Edges.{instance_of}
use Rattle.model.specs.Plans.{Plan}
use Rattle.model_desk.specs.Desk.{plan_held, Topic, Call, judge, Answer, said, Level, holding, holds, level_of, state_refusal, answer_of}
use Rattle.model_desk.specs.Rivals.{RivalSaid}
use Rattle.answers.specs.declared.Verdict.{Verdict}
use Rattle.answers.specs.declared.Verdict.TheVariants.{Strong, Popular, Beaten}
use Rattle.answers.specs.declared.Refusal.{Refusal}
use Rattle.answers.specs.VerdictCases.{verdict_shown}
use Rattle.abi_numbers.specs.declared.Judged.{Judged}
use Rattle.abi_numbers.specs.Numbers.{judged_in, level_number}
use Rattle.desk_files.specs.declared.Files.{Files}
use Rattle.desk_files.specs.Held.{held_of}
use Rattle.desk_files.specs.Replies.{answered, Replied}
use Rattle.desk_queries.specs.Judging.{rival_on, Judges}
use Rattle.desk.specs.declared.Desk.{Desk}

-- a call on a desk: its numbers, and all that the desk promises
pub record Served {A : Type 0} {k : Topic} (numbersIn : Answer k → A) (d : Files) (c : Call k) (n : A) (c' : Call k) (d' : Files) : Type 0 where
  pub numbers : n ≡ numbersIn (answered (held_of d) c)
  pub reply : Replied d c (answered (held_of d) c) c' d'

pub served : {A : Type 0} {k : Topic} (numbersIn : Answer k → A) {d : Files} {c : Call k} {a : Answer k} {n : A} {c' : Call k} {d' : Files}
    → Replied d c a c' d' → n ≡ numbersIn a → Served numbersIn d c n c' d'
served numbersIn {d} {c} {a} {n} {c'} {d'} R e = record { numbers = e ∙ ap numbersIn R.answer; reply = subst (λ z. Replied d c z c' d') R.answer R }

-- the same of a desk and numbers that were handed on
pub served_on : {A : Type 0} {k : Topic} (numbersIn : Answer k → A) {d : Files} {c : Call k} {a : Answer k} {n : A} {c' : Call k} {x y : Desk}
    → Replied d c a c' x.files → (y ≡ x) × (n ≡ numbersIn a) → Served numbersIn d c n c' y.files
served_on numbersIn {d} {c} {n = n} {c'} R (q, e) = subst (λ z. Served numbersIn d c n c' z.files) (sym q) (served numbersIn R e)

-- the verdict's call: the same, what holds of the rival that it writes and of the pairings of the vote against it, and how long the rival is
pub record JudgedFor (d : Files) (v f : List ℕ) (n : Judged) (v' f' : List ℕ) (d' : Files) : Type 0 where
  pub served : Served (judged_in n.rival_length) d (judge v f) n (judge v' f') d'
  pub rival : (R : Roster) (M : Plan) → plan_held (held_of d) ≡ some (R, M)
      → RivalSaid (instance_of R) M (answered (held_of d) (judge v f)) (v, f) (v', f')
  pub rival_length_law : n.rival_length ≡ rival_on (held_of d) (answered (held_of d) (judge v f))

pub judged : {d : Files} {v f : List ℕ} {a : Result Verdict Refusal} {k : ℕ} {n : Judged} {v' f' : List ℕ} {d' : Files} → Judges d v f a k v' f' d'
    → n ≡ judged_in k (verdict_shown a) → JudgedFor d v f n v' f' d'
judged {d} {v} {f} {a} {k} {n} {v'} {f'} {d'} J e = record {
  served = served (judged_in n.rival_length) J.replied (e ∙ ap (λ k. judged_in k (verdict_shown a)) (sym same));
  rival = λ R M h. subst (λ x. RivalSaid (instance_of R) M x (v, f) (v', f')) J.replied.answer (J.rival R M h);
  rival_length_law = same ∙ J.rival_length_law ∙ ap (rival_on (held_of d)) J.replied.answer;
}
  where
    length_in : (a : Result Verdict Refusal) → (judged_in k (verdict_shown a)).rival_length ≡ k
    length_in (Ok Strong) = refl
    length_in (Ok (Popular w)) = refl
    length_in (Ok (Beaten w)) = refl
    length_in (Err r) = refl

    same : n.rival_length ≡ k
    same = ap (λ (x : Judged). x.rival_length) e ∙ length_in a

-- what is held: its number, and the desk's promise; it is never refused
pub record HoldsFor (d : Files) (n : ℕ) (d' : Files) : Type 0 where
  pub numbers : n ≡ level_number (level_of (held_of d))
  pub reply : Replied d holds (said (holding (level_of (held_of d)))) holds d'

pub held_for : {d : Files} {x : Level} {n : ℕ} {d' : Files} → Replied d holds (said (holding x)) holds d' → n ≡ level_number x → HoldsFor d n d'
unfolding answer_of state_refusal
held_for {d} {x} {n} {d'} R e =
    let q : said (holding x) ≡ said (holding (level_of (held_of d))) = R.answer in
    let i : x ≡ level_of (held_of d) = cc in
    record { numbers = e ∙ ap level_number i; reply = subst (λ y. Replied d holds (said (holding y)) holds d') i R }
