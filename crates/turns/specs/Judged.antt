-- A judgement of the code as the refusal that may be missing in the definitions.
use Rattle.std.specs.Prelude.{Option, Some, None, Result, Ok, Err}
use Rattle.model.specs.declared.Refusal.{Refusal}

abbrev pub judged_option : (Result (Unit {0}) Refusal) → Option Refusal
judged_option (Ok tt) = None
judged_option (Err q) = Some q
