-- What the answer to a constraint says of a point, and what that of all says of their set of points.
use Rattle.std.proofs.{Common.◌≡◌, Common.List, Common.◌∷◌, Common.subst, Common.sym, Common.ℤ, Common.Ok, lemmas.List.Elements.All-contains, lemmas.List.Elements.Contains-append_right}
use Rattle.std.specs.List.{Contains}
use Rattle.lra_linear_spec.specs.{CheckedArithmetic.checked_product, Descriptions.LinearRow, Descriptions.HoldsWith, Vectors.product}
use Rattle.lra_linear_spec.proofs.Membership.{contains_head}
use Rattle.lra_systems.specs.declared.membership.MembershipAnswer as H
use Rattle.lra_systems.specs.Membership.{HoldsInRange, FailsInRange, DecidesMembership, TellsMembership}
use Rattle.lra_systems.specs.declared.membership.MembershipAnswer.TheVariants.{Yes, No, Wide}
use Rattle.lra_systems.proofs.FirstMembers.{ok_of}

-- ---- one constraint, with its product p
pub holds_here : (g : LinearRow) (x : List ℤ) (p : ℤ) → Ok p ≡ checked_product g.row x → p ≡ product g.row x → HoldsWith g.equal p → HoldsInRange x g
holds_here g x p q v h = (ok_of p (checked_product g.row x) q, subst (λ (z : ℤ). HoldsWith g.equal z) v h)

pub fails_here : (g : LinearRow) (x : List ℤ) (p : ℤ) → Ok p ≡ checked_product g.row x → p ≡ product g.row x → ¬ (HoldsWith g.equal p) → FailsInRange x g
fails_here g x p q v n = (ok_of p (checked_product g.row x) q, subst (λ (z : ℤ). ¬ (HoldsWith g.equal z)) v n)

-- ---- the set of points
pub answer_tells : (list : List LinearRow) (x : List ℤ) (answer : H.MembershipAnswer) → DecidesMembership list x answer → TellsMembership list x answer
answer_tells list x Yes a = λ g k. (All-contains (HoldsInRange x) list g a k).1
answer_tells list x (No place) a = λ con. a.here.1 (con a.member (subst (λ gs. Contains gs a.member) (sym a.is)
    (Contains-append_right a.earlier (a.member ∷ a.later) a.member (contains_head a.member a.later))))
answer_tells list x (Wide place) a = tt
