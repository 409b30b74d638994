-- What is said of a token.
use Rattle.std.specs.Prelude.{ℕ, List, ◌++◌, codes}
use Rattle.sab_refusal.specs.declared.syntax.fault.Expected.{Expected}
use Rattle.sab_refusal.specs.declared.syntax.fault.Expected.TheVariants as E
use Rattle.sab_refusal.specs.declared.syntax.fault.Fault.{Fault}
use Rattle.sab_refusal.specs.declared.syntax.fault.Fault.TheVariants as F

-- what can come next
abbrev pub expected_text : Expected → List ℕ
expected_text E.Value = codes "a value"
expected_text E.ValueOrBracket = codes "a value or ]"
expected_text E.Name = codes "a name in double quotes"
expected_text E.NameOrBrace = codes "a name in double quotes or }"
expected_text E.Colon = codes "a colon"
expected_text E.CommaOrBracket = codes "a comma or ]"
expected_text E.CommaOrBrace = codes "a comma or }"
expected_text E.End = codes "the end of the text"

-- what is wrong
abbrev pub fault_text : Fault → List ℕ
fault_text (F.Unexpected expected) = codes "expected " ++ expected_text expected
fault_text F.Word = codes "JSON has no words but true, false and null"
fault_text F.Number = codes "no number of JSON"
fault_text F.TooLarge = codes "is JSON, but isn't read: the number is too large"
fault_text F.TooDeep = codes "is JSON, but isn't read: more than 127 brackets are open"
fault_text F.Control = codes "a string has a line end or another control character"
fault_text F.Escape = codes "a string has a backslash and no escape of JSON"
fault_text F.Surrogate = codes "is JSON, but isn't read: a string has half a surrogate pair"
fault_text F.NotUtf8 = codes "a string has bytes that aren't UTF-8"
