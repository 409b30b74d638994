use Rattle.std.proofs.Common.{arith}
use Rattle.sab_reader.specs.Script.Agents.{agent_object}
use Rattle.sab_reader.proofs.OfScript.ObjectTokens.{agent_read}
use Rattle.sab_reader.proofs.script.plain.agents.AgentScannerScanner.scan.Goals as goal

pub returns : goal.returns
returns c = λ j begins.
    let p = c.in-Some.ensures j begins in
    let b = c.in-Some-scan_flag.ensures p.0 p.3 in
    let k = c.in_ok-calls.ensures p.1 p.4 in (
      agent_object b.0 k.0,
      agent_read 2 j p.0 p.1 b.0 k.0 p.2 (b.1.0, omega (arith, b.1.1)) k.1,
      record { call_trees = k.2.0; tree = λ i. agent_object (b.2 i) (k.2.1 i); calls = k.2.2 },
    )
