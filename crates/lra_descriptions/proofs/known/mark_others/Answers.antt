-- Goals of `mark_others`: the marked rows other than this one.
use Rattle.std.proofs.Common.{rules, ◌≡◌, ◌∙◌, ap, cond, length, subst, sym, Bool, [], ◌∷◌}
use Rattle.std.proofs.{lemmas.Iterator.Adapters.YieldsList-from_vec, lemmas.Iterator.Consumers.YieldsList-end, lemmas.List.append-nil}
use Rattle.std.specs.List.{All}
use Rattle.lra_canonical.specs.{MarkedRows.AreToldBy, declared.order.Marked.Marked}
use Rattle.lra_descriptions.specs.ShownLists.{without}
use Rattle.lra_descriptions.proofs.{KnownLists.all_yielded, KnownLists.kept_each, KnownLists.kept_rows, KnownLists.left_each, Parted.without_append}
use Rattle.lra_descriptions.proofs.known.mark_others.Goals as goal

pub each-preserved-in-Continue-branch-2 : goal.each-preserved-in-Continue-branch-2
each-preserved-in-Continue-branch-2 c =
    let left = c.args.left_out.now in
    let seen = c.each.yielded in
    let x = c.in-Some.ray in
    let old = c.each.others.items in
    let i = c.each.invariant in
    let kept = ap (λ (b : Bool). cond b [] (x.row ∷ [])) (sym c.are_same.ensures ∙ c.if-not-are_same.true) in
    let new = c.push.new.self.items in
    record {
      rows = kept_rows (without left) (without_append left) seen x (x ∷ []) old new (sym kept) c.in_ok-push.ensures.items i.rows;
      told = λ told t. kept_each (λ (m : Marked). m.bits ≡ told m.row) seen x old new c.in_ok-push.ensures.items (i.told told) t;
      widths = λ n h. kept_each (λ (m : Marked). length m.bits ≡ n) seen x old new c.in_ok-push.ensures.items (i.widths n) h;
    }

pub each-preserved : goal.each-preserved
each-preserved c =
    let left = c.args.left_out.now in
    let seen = c.each.yielded in
    let x = c.in-Some.ray in
    let old = c.each.others.items in
    let i = c.each.invariant in
    let gone = ap (λ (b : Bool). cond b [] (x.row ∷ [])) (sym c.are_same.ensures ∙ c.if-not-are_same.false) in
    record {
      rows = kept_rows (without left) (without_append left) seen x [] old old (sym gone) (sym (append-nil old)) i.rows;
      told = λ told t. left_each (λ (m : Marked). m.bits ≡ told m.row) seen x old (i.told told) t;
      widths = λ n h. left_each (λ (m : Marked). length m.bits ≡ n) seen x old (i.widths n) h;
    }

pub returns-clause-told : goal.returns-clause-told
returns-clause-told c =
    let items = c.args.marked.items in
    let road = YieldsList-from_vec {s = c.into_iter-ray-iterator.result} items (search rules) (search rules) in
    let end = YieldsList-end road c.each.yielded c.each.ray-iterator c.each.yielded_by c.next.result c.next.new.self c.in-None.is c.next.ensures.steps in
    let done = all_yielded c.each.yielded items end.0 in
    λ told t. c.each.invariant.told told (subst (AreToldBy told) (sym done) t)

pub returns-clause-widths : goal.returns-clause-widths
returns-clause-widths c =
    let items = c.args.marked.items in
    let road = YieldsList-from_vec {s = c.into_iter-ray-iterator.result} items (search rules) (search rules) in
    let end = YieldsList-end road c.each.yielded c.each.ray-iterator c.each.yielded_by c.next.result c.next.new.self c.in-None.is c.next.ensures.steps in
    let done = all_yielded c.each.yielded items end.0 in
    λ w h. c.each.invariant.widths w (subst (All (λ (m : Marked). length m.bits ≡ w)) (sym done) h)
