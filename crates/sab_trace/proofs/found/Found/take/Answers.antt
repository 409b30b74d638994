use Rattle.json.specs.Reads.{token_of}
use Rattle.sab_trace.proofs.Takes.{on_some, takes_event, takes_agent, takes_call, takes_does, takes_block, takes_byte, takes_size, takes_read, takes_write, takes_atomic, takes_waiters, takes_source}
use Rattle.sab_trace.proofs.found.Found.take.Goals as goal

pub returns-in-event : goal.returns-in-event
returns-in-event c =
    on_some c.fill_whole.result (takes_event c.args.name.now (token_of c.args.token) c.args.self.now
    c.fill_whole.new.slot c.in-event.is) c.fill_whole.ensures

pub returns-in-agent : goal.returns-in-agent
returns-in-agent c =
    on_some c.fill_whole-in-agent.result (takes_agent c.args.name.now (token_of c.args.token) c.args.self.now
    c.fill_whole-in-agent.new.slot c.in-agent.is) c.fill_whole-in-agent.ensures

pub returns-in-call : goal.returns-in-call
returns-in-call c =
    on_some c.fill_whole-in-call.result (takes_call c.args.name.now (token_of c.args.token) c.args.self.now
    c.fill_whole-in-call.new.slot c.in-call.is) c.fill_whole-in-call.ensures

pub returns-in_ok-deed-in-does : goal.returns-in_ok-deed-in-does
returns-in_ok-deed-in-does c =
    on_some c.fill.result (λ e. takes_does c.args.name.now (token_of c.args.token) c.args.self.now c.fill.new.slot
    c.in-does.is (c.in_ok-deed-in-does.field-0, c.in_ok-deed-in-does.ensures, e.0, e.1)) c.fill.ensures

pub returns-in-block : goal.returns-in-block
returns-in-block c =
    on_some c.fill_whole-in-block.result (takes_block c.args.name.now (token_of c.args.token) c.args.self.now
    c.fill_whole-in-block.new.slot c.in-block.is) c.fill_whole-in-block.ensures

pub returns-in-byte : goal.returns-in-byte
returns-in-byte c =
    on_some c.fill_whole-in-byte.result (takes_byte c.args.name.now (token_of c.args.token) c.args.self.now
    c.fill_whole-in-byte.new.slot c.in-byte.is) c.fill_whole-in-byte.ensures

pub returns-in-size : goal.returns-in-size
returns-in-size c =
    on_some c.fill_whole-in-size.result (takes_size c.args.name.now (token_of c.args.token) c.args.self.now
    c.fill_whole-in-size.new.slot c.in-size.is) c.fill_whole-in-size.ensures

pub returns-in-read : goal.returns-in-read
returns-in-read c =
    on_some c.fill_flag.result (takes_read c.args.name.now (token_of c.args.token) c.args.self.now
    c.fill_flag.new.slot c.in-read.is) c.fill_flag.ensures

pub returns-in-write : goal.returns-in-write
returns-in-write c =
    on_some c.fill_flag-in-write.result (takes_write c.args.name.now (token_of c.args.token) c.args.self.now
    c.fill_flag-in-write.new.slot c.in-write.is) c.fill_flag-in-write.ensures

pub returns-in-atomic : goal.returns-in-atomic
returns-in-atomic c =
    on_some c.fill_flag-in-atomic.result (takes_atomic c.args.name.now (token_of c.args.token) c.args.self.now
    c.fill_flag-in-atomic.new.slot c.in-atomic.is) c.fill_flag-in-atomic.ensures

pub returns-in-waiters : goal.returns-in-waiters
returns-in-waiters c =
    on_some c.fill_flag-in-waiters.result (takes_waiters c.args.name.now (token_of c.args.token) c.args.self.now
    c.fill_flag-in-waiters.new.slot c.in-waiters.is) c.fill_flag-in-waiters.ensures

pub returns-else-self : goal.returns-else-self
returns-else-self c =
    takes_source c.args.name.now (token_of c.args.token) c.args.self.now c.in-source.is c.if-self.false
    c.in_ok-source-in-source.ensures
