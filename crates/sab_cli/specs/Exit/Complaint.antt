-- What is reported about a job that failed.
use Rattle.std.specs.Prelude.{ℕ, List, [], ◌++◌, Option, Some, None, codes, decimal}
use Rattle.std.specs.Borrow.{Bor}
use Rattle.sab_replay.specs.declared.faults.tool_fault.ToolFault.{ToolFault}
use Rattle.sab_replay.specs.declared.faults.tool_fault.ToolFault.TheVariants.{OrdinaryData}
use Rattle.sab_cli.specs.declared.exit.complaint.Complaint.{Complaint}
use Rattle.sab_cli.specs.Exit.FaultLine.{text_of}

-- the name of the file that failed, behind a colon
abbrev pub file_text : Option (Bor (List ℕ)) → List ℕ
file_text None = []
file_text (Some name) = codes ": " ++ name.now

-- the line of the input, behind a colon
abbrev pub line_text : Option ℕ → List ℕ
line_text None = []
line_text (Some line) = codes ": line " ++ decimal line

-- what can be done instead, as a line
abbrev pub advice_text : ToolFault → List ℕ
advice_text OrdinaryData =
    codes "the script may not show all accesses of its run, so judge the run's trace: "
    ++ codes "sabsim judge --trace FILE.trace.jsonl\n"
advice_text _ = []

-- the line of the fault, what can be done instead, and what a check says
abbrev pub complaint_text : Complaint → List ℕ
complaint_text c = text_of c.fault ++ (file_text c.file ++ (line_text c.line
    ++ (codes "\n" ++ (advice_text c.fault ++ c.why.now))))
