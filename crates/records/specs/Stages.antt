-- What may still come at a stage.
use Rattle.std.specs.Prelude.{ℕ, Bool, List}
use Rattle.records.specs.declared.held.Form.{Form}
use Rattle.records.specs.declared.held.Form.TheVariants.{Set, Modes}
use Rattle.records.specs.declared.stage.Stage.{Stage}
use Rattle.records.specs.declared.stage.Stage.TheVariants.{SetStart, Entries, Alternatives, Ended, ModeStart, Elements}
use Rattle.records.specs.Order.{none, descriptors, entries, set_order, modes, mode_order}

abbrev pub rest : Stage → List ℕ → Bool
rest SetStart ts = set_order ts
rest Entries ts = entries ts
rest (Alternatives n) ts = descriptors n ts
rest Ended ts = none ts
rest ModeStart ts = mode_order ts
rest (Elements m n) ts = modes m n ts

abbrev pub in_order : Form → List ℕ → Bool
in_order Set ts = set_order ts
in_order Modes ts = mode_order ts
