-- `routes::routed` meets its contract: 15, the route's refusal, the roster's, or what stands behind them. Assumes nothing.
use Rattle.std.proofs.Common.{arith, ◌≡◌, sym, ap, ◌∙◌, subst, Err, rules}
use Rattle.model.specs.RosterFile.{read_roster}
use Rattle.model.specs.Limits.{stored_size}
use Rattle.answers.specs.FileCases.{file_read, read_accepted}
use Rattle.answers.specs.Settling.{Answers, answers_short, answers_settled}
use Rattle.routes.specs.Storing.{turn_by, head_turned, roster_turned, rest_whole}
use Rattle.routes.proofs.routed.Goals as goal

pub returns-in_err-k : goal.returns-in_err-k
returns-in_err-k c =
    let a = c.args in
    let n = c.in_err-k.field-0.0 in
    let told : c.from_residual.result ≡ Err n = search rules in
    subst (λ r. Answers stored_size (turn_by a.back a.file.now) a.out.now r a.out.now) (sym told)
    (answers_settled stored_size (turn_by a.back a.file.now) a.out.now c.if-out-lt-STORED_SIZE.false
    (head_turned a.back a.file.now a.out.now n c.in_err-k.ensures))

pub returns-in_err-read_roster : goal.returns-in_err-read_roster
returns-in_err-read_roster c =
    let a = c.args in
    let k = c.in_ok-k.k in
    let n = c.in_err-read_roster.field-0.0 in
    let told : c.from_residual-in_err-read_roster.result ≡ Err n = search rules in
    subst (λ r. Answers stored_size (turn_by a.back a.file.now) a.out.now r a.out.now) (sym told)
    (answers_settled stored_size (turn_by a.back a.file.now) a.out.now c.if-out-lt-STORED_SIZE.false
    (roster_turned a.back a.file.now a.out.now k c.in_ok-k.ensures n c.in_err-read_roster.was
    (c.read_roster.ensures ∙ ap (λ z. file_read (read_roster z)) (rest_whole a.file.now k c.part.result.now c.part.ensures))))

pub settled-requires : goal.settled-requires
settled-requires c =
    let a = c.args in
    let k = c.in_ok-k.k in
    let (r, e) = read_accepted (read_roster c.part.result.now) c.in_ok-read_roster.was c.read_roster.ensures in
    let same = rest_whole a.file.now k c.part.result.now c.part.ensures in
    ((c.in_ok-k.ensures, (r, sym (ap read_roster same) ∙ e)), c.if-out-lt-STORED_SIZE.false)

pub returns : goal.returns
returns c =
    let a = c.args in
    answers_settled stored_size (turn_by a.back a.file.now) a.out.now c.if-out-lt-STORED_SIZE.false c.settled.ensures

pub overflow_add-k : goal.overflow_add-k
overflow_add-k c = let R = c.in_ok-k.ensures in omega (arith, R.few)

pub returns-then-out-lt-STORED_SIZE : goal.returns-then-out-lt-STORED_SIZE
returns-then-out-lt-STORED_SIZE c =
    let a = c.args in
    answers_short stored_size (turn_by a.back a.file.now) a.out.now c.if-out-lt-STORED_SIZE.true
