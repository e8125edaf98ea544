-- The replies of a desk: what the core of a find, a join or a leave hands back, as a search's outcome with the files held then; and what is said of the
-- one is said of the other.
use Rattle.std.specs.Prelude.{ℕ, ◌≡◌, List}
use Rattle.std.proofs.Common.{sym, subst}
use Rattle.desk_files.specs.declared.Files.{Files}
use Rattle.desk_find.specs.declared.Searched.{Searched}
use Rattle.desk_find.specs.Finding.{Done}
use Rattle.desk_stored.specs.Changing.{ToRoster}
use Rattle.desk_changes.specs.AfterChange.{ChangeDone}
use Rattle.desk.specs.declared.CoreReply.{CoreReply}

abbrev pub searched_in : CoreReply → Searched
searched_in c = record {
  files = c.reply.desk.files;
  outcome = record { answer = c.reply.answer; lengths = c.reply.lengths; flat = c.flat; steps = c.steps };
}

module _ {d : Files} {room : ℕ} {l p v : List ℕ} {s : Searched} (c : CoreReply) (e : searched_in c ≡ s) {l' p' v' : List ℕ} where
  pub done_replied : Done d room l p v s l' p' v' → Done d room l p v (searched_in c) l' p' v'
  done_replied D = subst (λ s. Done d room l p v s l' p' v') (sym e) D

  pub change_replied : {change : ToRoster} {n : ℕ} → ChangeDone d change n room l p v s l' p' v' → ChangeDone d change n room l p v (searched_in c) l' p' v'
  change_replied {change} {n} D = subst (λ s. ChangeDone d change n room l p v s l' p' v') (sym e) D
