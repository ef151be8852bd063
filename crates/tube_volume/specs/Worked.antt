-- The six-fold volume of the box 0..1 is exactly 6, and with its facets turned -6. Computed from the definition; assumes nothing.
use Rattle.std.specs.Prelude.{◌≡◌, refl, false, List, [], ◌∷◌, ◌+◌, ◌*◌, ◌^◌, pos, Float}
use Rattle.std.specs.Float.{fin}
use Rattle.space.specs.declared.Point3.{Point3}
use Rattle.tube_volume.specs.Sixfold.{fan_volume, facet_volume, shell_volume, sixfold}

abbrev n0 : Float
n0 = fin false 0 (pos 0)

abbrev n1 : Float
n1 = fin false 1 (pos 0)

abbrev pt : Float → Float → Float → Point3
pt a b c = record { x = a; y = b; z = c }

-- low z, high z, low y, high y, low x, high x
abbrev pub box : List (List Point3)
box =
    (pt n0 n0 n0 ∷ pt n0 n1 n0 ∷ pt n1 n1 n0 ∷ pt n1 n0 n0 ∷ [])
    ∷ (pt n0 n0 n1 ∷ pt n1 n0 n1 ∷ pt n1 n1 n1 ∷ pt n0 n1 n1 ∷ [])
    ∷ (pt n0 n0 n0 ∷ pt n1 n0 n0 ∷ pt n1 n0 n1 ∷ pt n0 n0 n1 ∷ [])
    ∷ (pt n0 n1 n0 ∷ pt n0 n1 n1 ∷ pt n1 n1 n1 ∷ pt n1 n1 n0 ∷ [])
    ∷ (pt n0 n0 n0 ∷ pt n0 n0 n1 ∷ pt n0 n1 n1 ∷ pt n0 n1 n0 ∷ [])
    ∷ (pt n1 n0 n0 ∷ pt n1 n1 n0 ∷ pt n1 n1 n1 ∷ pt n1 n0 n1 ∷ [])
    ∷ []

abbrev pub turned : List (List Point3)
turned =
    (pt n0 n0 n0 ∷ pt n1 n0 n0 ∷ pt n1 n1 n0 ∷ pt n0 n1 n0 ∷ [])
    ∷ (pt n0 n0 n1 ∷ pt n0 n1 n1 ∷ pt n1 n1 n1 ∷ pt n1 n0 n1 ∷ [])
    ∷ (pt n0 n0 n0 ∷ pt n0 n0 n1 ∷ pt n1 n0 n1 ∷ pt n1 n0 n0 ∷ [])
    ∷ (pt n0 n1 n0 ∷ pt n1 n1 n0 ∷ pt n1 n1 n1 ∷ pt n0 n1 n1 ∷ [])
    ∷ (pt n0 n0 n0 ∷ pt n0 n1 n0 ∷ pt n0 n1 n1 ∷ pt n0 n0 n1 ∷ [])
    ∷ (pt n1 n0 n0 ∷ pt n1 n0 n1 ∷ pt n1 n1 n1 ∷ pt n1 n1 n0 ∷ [])
    ∷ []

pub box_six : (sixfold box).more ≡ (sixfold box).less + 6 * 2 ^ 3222
unfolding sixfold shell_volume facet_volume fan_volume
box_six = refl

pub turned_six : (sixfold turned).less ≡ (sixfold turned).more + 6 * 2 ^ 3222
unfolding sixfold shell_volume facet_volume fan_volume
turned_six = refl
