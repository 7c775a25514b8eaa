-- What a group shows.
use Rattle.std.specs.Prelude.{◌≡◌}
use Rattle.rules.specs.States.{State}
use Rattle.rules.specs.Views.{seen}
use Rattle.rows.specs.declared.Group.{Group}
use Rattle.rows.specs.declared.GroupMut.{GroupMut}
use Rattle.shelves.specs.Contents.{Contents}

-- a new tray of the group's sizes over its shelf
abbrev pub shown : {S X A : Type 0} → (S → Contents X) → (X → A) → Group S → State A
shown contents meaning group = seen meaning group.sizes (contents group.shelf.now)

-- The group is still over the same shelf, as proofs know a loan by its name, and of the same sizes.
pub record SameGroup {S : Type 0} (before after : GroupMut S) : Type 0 where
  pub shelf : after.shelf.ghost_name ≡ before.shelf.ghost_name
  pub sizes : after.sizes ≡ before.sizes
