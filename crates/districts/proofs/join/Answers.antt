-- `districts::join` meets its contract: 15, the first file's refusal, the second's, that of the sums, or the array's front copied. Assumes nothing.
use Rattle.std.proofs.Common.{arith, ◌≡◌, refl, sym, ap, subst, List, ℕ, length, Result, Err, rules}
use Rattle.model.specs.Limits.{roster_size}
use Rattle.model.specs.Reading.{accepted}
use Rattle.model.specs.Roster.{Roster}
use Rattle.model.specs.RosterFile.{read_roster}
use Rattle.model_files.specs.Districts.{joined_file}
use Rattle.theory_files.specs.Reads.{bytes_are}
use Rattle.answers.specs.declared.Refusal.{Refusal}
use Rattle.answers.specs.FileCases.{read_accepted}
use Rattle.answers.specs.Settling.{Settles, answers_short, answers_settled}
use Rattle.roster_parts.specs.Growth.{written_few}
use Rattle.districts.specs.Joins.{Joins, joins, first_turned, second_turned, sums_turned, both_copied}
use Rattle.districts.proofs.join.Goals.{Else-out-lt-ROSTER_SIZE, In_ok-read_roster, In_ok-read_roster-2}
use Rattle.districts.proofs.join.Goals as goal

-- the rosters that they are
first_read : (p : In_ok-read_roster) → (r : Roster) × (read_roster p.args.first.now ≡ accepted r)
first_read p = read_accepted (read_roster p.args.first.now) p.in_ok-read_roster.was p.read_roster.ensures

second_read : (p : In_ok-read_roster-2) → (q : Roster) × (read_roster p.args.second.now ≡ accepted q)
second_read p = read_accepted (read_roster p.args.second.now) p.in_ok-read_roster-2.was p.read_roster-2.ensures

-- behind the test of the buffer
settled : (p : Else-out-lt-ROSTER_SIZE) → {r r' : Result ℕ Refusal} {o' : List ℕ} → r ≡ r' → Settles (joined_file p.args.first.now p.args.second.now) p.args.out.now r' o'
    → Joins p.args.first.now p.args.second.now p.args.out.now r o'
settled p {r} {r'} {o'} e s =
    let a = p.args in
    subst (λ z. Joins a.first.now a.second.now a.out.now z o') (sym e)
    (joins a.first.now a.second.now (bytes_are a.first.now (λ i. omega (arith, p.type_inv.first i))) (bytes_are a.second.now (λ i. omega (arith, p.type_inv.second i)))
    a.out.now (answers_settled roster_size (joined_file a.first.now a.second.now) a.out.now p.if-out-lt-ROSTER_SIZE.false s))

pub returns-then-out-lt-ROSTER_SIZE : goal.returns-then-out-lt-ROSTER_SIZE
returns-then-out-lt-ROSTER_SIZE c =
    let a = c.args in
    joins a.first.now a.second.now (bytes_are a.first.now (λ i. omega (arith, c.type_inv.first i)))
    (bytes_are a.second.now (λ i. omega (arith, c.type_inv.second i))) a.out.now
    (answers_short roster_size (joined_file a.first.now a.second.now) a.out.now c.if-out-lt-ROSTER_SIZE.true)

pub returns-in_err-read_roster : goal.returns-in_err-read_roster
returns-in_err-read_roster c =
    let a = c.args in
    let n = c.in_err-read_roster.field-0.0 in
    let told : c.from_residual.result ≡ Err n = search rules in
    settled (goal.at.returns-in_err-read_roster c).Else-out-lt-ROSTER_SIZE told
    (first_turned a.first.now a.second.now a.out.now n c.in_err-read_roster.was c.read_roster.ensures)

pub returns-in_err-read_roster-2 : goal.returns-in_err-read_roster-2
returns-in_err-read_roster-2 c =
    let a = c.args in
    let n = c.in_err-read_roster-2.field-0.0 in
    let told : c.from_residual-in_err-read_roster-2.result ≡ Err n = search rules in
    let (r, d) = first_read (goal.at.returns-in_err-read_roster-2 c).In_ok-read_roster in
    settled (goal.at.returns-in_err-read_roster-2 c).Else-out-lt-ROSTER_SIZE told
    (second_turned a.first.now a.second.now r d a.out.now n c.in_err-read_roster-2.was c.read_roster-2.ensures)

pub counts_of_both-requires : goal.counts_of_both-requires
counts_of_both-requires c = (first_read (goal.at.counts_of_both-requires c).In_ok-read_roster, second_read (goal.at.counts_of_both-requires c).In_ok-read_roster-2)

pub returns-in_err-k : goal.returns-in_err-k
returns-in_err-k c =
    let a = c.args in
    let n = c.in_err-k.field-0.0 in
    let told : c.from_residual-in_err-k.result ≡ Err n = search rules in
    let (r, d) = first_read (goal.at.returns-in_err-k c).In_ok-read_roster in
    let (q, e) = second_read (goal.at.returns-in_err-k c).In_ok-read_roster-2 in
    settled (goal.at.returns-in_err-k c).Else-out-lt-ROSTER_SIZE told
    (sums_turned a.first.now a.second.now r q d e a.out.now (c.in_err-k.ensures r q d e) n refl)

pub beside-made-requires : goal.beside-made-requires
beside-made-requires c = (c.in_ok-k.ensures.surveyors, c.in_ok-k.ensures.stands)

pub copy-requires : goal.copy-requires
copy-requires c = omega (arith, ap length c.bytes.ensures, written_few c.beside-made.result, c.if-out-lt-ROSTER_SIZE.false)

pub returns : goal.returns
returns c =
    let a = c.args in
    let (r, d) = first_read (goal.at.returns c).In_ok-read_roster in
    let (q, e) = second_read (goal.at.returns c).In_ok-read_roster-2 in
    settled (goal.at.returns c).Else-out-lt-ROSTER_SIZE refl
    (both_copied a.first.now a.second.now r q d e a.out.now (c.in_ok-k.ensures.joined c.beside-made.result c.beside-made.ensures r q d e) refl
    c.bytes.result.now c.copy.result c.copy.new.to c.bytes.ensures c.copy.ensures.0 c.copy.ensures.1)
