-- The items of a block, one by one: where all are stopped by one of them.
use Rattle.std.proofs.Common.{◌≡◌, ℕ, suc, List, [], ◌∷◌, sym, subst}
use Rattle.lra_program.specs.Program as program
use Rattle.lra_program.specs.Sites.{Site, Event, plain_site, given_events, stmt_events, items_events}
use Rattle.lra_program.specs.{Program.declaration, Program.array, Program.statement, declared.arrays.Array.Array}
use Rattle.lra_inline_steps.specs.{Building.inside, Building.ItemsStand, Limits.Progress, Limits.passed, Limits.stopped, Limits.add_points, declared.frame.Frame.Frame, declared.points.Limit.Limit}
use Rattle.lra_inline_steps.proofs.{Stopping.second_stopped, Stopping.third_stopped, Stopping.middle_stopped, Walking.walk_stop}

-- items that are known by an equation --------------------------------------------------------------------------------------

pub items_stand_as : (P : program.Program) (r : Frame) (b b' : program.BlockItems) → b ≡ b' → ItemsStand P r b → ItemsStand P r b'
items_stand_as P r b b' e x = subst (λ z. ItemsStand P r z) e x

module _ (P : program.Program) (path : List ℕ) (r : Frame) (S : List Site) (all : program.BlockItems) where
  items_stopped : (b : program.BlockItems) (w : Progress) → all ≡ b → add_points S (items_events (inside P path r) path r.live b) ≡ w →
      add_points S (items_events (inside P path r) path r.live all) ≡ w
  items_stopped b w e h = subst (λ z. add_points S (items_events (inside P path r) path r.live z) ≡ w) (sym e) h

  -- after a declarator
  module _ (d : program.Declarator) (b : program.BlockItems) (e : all ≡ declaration d b) where
    module _ (V : List Site) (n : ℕ) (point : add_points S (plain_site path d.label r.live ∷ []) ≡ passed V) (same : n ≡ suc r.live) where
      pub declaration_at_given : (x : Limit) → add_points V (given_events (inside P path r) path n d.rvalue) ≡ stopped x → add_points S (items_events (inside P path r) path r.live all) ≡ stopped x
      declaration_at_given x h = items_stopped (declaration d b) (stopped x) e
          (middle_stopped S V (plain_site path d.label r.live ∷ []) (given_events (inside P path r) path (suc r.live) d.rvalue) (items_events (inside P path r) path (suc r.live) b) x point
          (subst (λ z. add_points V (given_events (inside P path r) path z d.rvalue) ≡ stopped x) same h))

      pub declaration_at_others : (W : List Site) (x : Limit) → add_points V (given_events (inside P path r) path (suc r.live) d.rvalue) ≡ passed W
          → add_points W (items_events (inside P path r) path n b) ≡ stopped x
          → add_points S (items_events (inside P path r) path r.live all) ≡ stopped x
      declaration_at_others W x g h = items_stopped (declaration d b) (stopped x) e
          (third_stopped S V W (plain_site path d.label r.live ∷ []) (given_events (inside P path r) path (suc r.live) d.rvalue) (items_events (inside P path r) path (suc r.live) b) x point
          g (subst (λ z. add_points W (items_events (inside P path r) path z b) ≡ stopped x) same h))

  -- after an array's declarator
  module _ (at : ℕ) (a : Array) (b : program.BlockItems) (e : all ≡ array at a b) where
    abbrev own : List Event
    own = plain_site path at r.live ∷ []

    pub array_at_point : (x : Limit) → add_points S own ≡ stopped x → add_points S (items_events (inside P path r) path r.live all) ≡ stopped x
    array_at_point x h = items_stopped (array at a b) (stopped x) e (walk_stop S own (items_events (inside P path r) path r.live b) x h)

    pub array_at_others : (V : List Site) (x : Limit) → add_points S own ≡ passed V → add_points V (items_events (inside P path r) path r.live b) ≡ stopped x
        → add_points S (items_events (inside P path r) path r.live all) ≡ stopped x
    array_at_others V x f h = items_stopped (array at a b) (stopped x) e (second_stopped S V own (items_events (inside P path r) path r.live b) x f h)

  -- after a statement
  module _ (s : program.Stmt) (b : program.BlockItems) (e : all ≡ statement s b) where
    pub statement_at_first : (x : Limit) → add_points S (stmt_events (inside P path r) path r.live s) ≡ stopped x → add_points S (items_events (inside P path r) path r.live all) ≡ stopped x
    statement_at_first x h = items_stopped (statement s b) (stopped x) e (walk_stop S (stmt_events (inside P path r) path r.live s) (items_events (inside P path r) path r.live b) x h)

    pub statement_at_others : (V : List Site) (x : Limit) → add_points S (stmt_events (inside P path r) path r.live s) ≡ passed V →
        add_points V (items_events (inside P path r) path r.live b) ≡ stopped x
        → add_points S (items_events (inside P path r) path r.live all) ≡ stopped x
    statement_at_others V x f h = items_stopped (statement s b) (stopped x) e (second_stopped S V (stmt_events (inside P path r) path r.live s) (items_events (inside P path r) path r.live b) x f h)
