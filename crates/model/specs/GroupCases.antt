-- The group of every refusal, and of numbers that are none, run by the checker.
use Rattle.std.specs.Prelude.{◌≡◌, refl, [], ◌∷◌, map}
use Rattle.lists.specs.Sum.{range}
use Rattle.model.specs.Refusal.{form, content, plan, desk, group_of}

-- 0 is no refusal; 16 and 17 are those of W-202, 18 is that of W-204, 19 of W-205, 20 of W-207, 21 to 23 are those of W-211, W-212 and W-214
pub groups : map group_of (range 0 24) ≡ content ∷ form ∷ form ∷ content ∷ content ∷ content ∷ content ∷ content ∷ content ∷ form ∷ plan ∷ plan ∷ plan
    ∷ desk ∷ desk ∷ desk ∷ content ∷ content ∷ content ∷ content ∷ desk ∷ content ∷ content ∷ content ∷ []
unfolding group_of
groups = refl
