use Rattle.std.proofs.Common.{◌≡◌, ◌+◌, ◌*◌, ◌≤◌, ◌++◌, true, length, drop}
use Rattle.serde_json.specs.Written.{items_text}
use Rattle.sab_report_text.specs.declared.json_lines.found.TheConstants.{NEXT_AGENT_LEN}
use Rattle.sab_report_text.specs.JsonLines.FactData.{agent_items}
use Rattle.sab_report_text.proofs.json_lines.found.push_next_agents.Given as goal

abbrev pub invariant-loop-agent : goal.invariant-loop-agent
invariant-loop-agent l = record {
  bytes : l.chunk ++ items_text true (agent_items (drop l.agent-index l.agents)) ≡ l.fn.chunk
      ++ items_text true (agent_items l.agents);
  room : length l.chunk ≤ length l.fn.chunk + NEXT_AGENT_LEN * l.agent-index;
}
