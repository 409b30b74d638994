-- The text of a refusal.
use Rattle.std.specs.Prelude.{ℕ, ◌++◌, List, codes, decimal}
use Rattle.sab_trace.specs.declared.refusal.Refusal.{Refusal}
use Rattle.sab_trace.specs.LineFault.{name_of}

abbrev pub refusal_text : Refusal → List ℕ
refusal_text refusal = name_of refusal.fault ++ codes ": line " ++ decimal refusal.line
