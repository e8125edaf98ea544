-- What each case of the code's answer says, in document 01's words: the groups of refusals.
use Rattle.std.specs.Prelude.{◌≡◌, refl}
use Rattle.std.proofs.Common.{sym, ap, ◌∙◌}
use Rattle.model.specs.Refusal as model
use Rattle.answers.specs.declared.Group.{Group}
use Rattle.answers.specs.declared.Group.TheVariants.{Form, Content, Plan, Desk}

-- the group that a case names: form, content, plan or desk
abbrev pub group_shown : Group → model.Group
group_shown Form = model.form
group_shown Content = model.content
group_shown Plan = model.plan
group_shown Desk = model.desk

-- the case that shows a group
abbrev pub group_case : model.Group → Group
group_case model.form = Form
group_case model.content = Content
group_case model.plan = Plan
group_case model.desk = Desk

pub case_shown : (g : Group) → group_case (group_shown g) ≡ g
case_shown Form = refl
case_shown Content = refl
case_shown Plan = refl
case_shown Desk = refl

-- the case for a group shows that group
pub shown_case : (g : model.Group) → group_shown (group_case g) ≡ g
shown_case model.form = refl
shown_case model.content = refl
shown_case model.plan = refl
shown_case model.desk = refl

-- a case is the one for the group that it shows
pub shows_case : (g : Group) {m : model.Group} → group_shown g ≡ m → g ≡ group_case m
shows_case g e = sym (case_shown g) ∙ ap group_case e
