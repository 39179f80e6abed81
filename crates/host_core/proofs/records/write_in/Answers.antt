use Rattle.std.proofs.Common.{◌≡◌, List, ℕ, drop, ap, sym, subst, ◌∙◌, rules}
use Rattle.codes3270.specs.Size.{ScreenSize}
use Rattle.datastream.specs.Grammar.{CommandParts, IsCommand}
use Rattle.shadow.specs.Stores.{is_plain}
use Rattle.host_core.specs.Representation.{command_in}
use Rattle.host_core.proofs.RecordsTaken.{behind}
use Rattle.host_core.proofs.records.write_in.Goals as goal

-- the bytes that were sent spell the command, whatever name the bytes have
spelt_for : (size : ScreenSize) (command : CommandParts) (bytes behind : List ℕ) → behind ≡ bytes → IsCommand size size command bytes → IsCommand size size command behind
spelt_for size command bytes behind same encoded = subst (λ (some : List ℕ). IsCommand size size command some) (sym same) encoded

pub unwrap-requires : goal.unwrap-requires
unwrap-requires c =
    let command : CommandParts = command_in c.args.size (drop 5 c.args.sent.now) in
    let encoded = spelt_for c.args.size command (drop 5 c.args.sent.now) _ (behind c.args.sent.now) c.requires.encoded in
    rw (c.read_command.ensures.only command encoded) (search rules)

pub returns-clause-command : goal.returns-clause-command
returns-clause-command c =
    let command : CommandParts = command_in c.args.size (drop 5 c.args.sent.now) in
    let encoded = spelt_for c.args.size command (drop 5 c.args.sent.now) _ (behind c.args.sent.now) c.requires.encoded in
    let read = c.read_command.ensures.only command encoded in
    cc (read, c.unwrap.ensures)

pub returns-clause-plain : goal.returns-clause-plain
returns-clause-plain c =
    let command : CommandParts = command_in c.args.size (drop 5 c.args.sent.now) in
    let encoded = spelt_for c.args.size command (drop 5 c.args.sent.now) _ (behind c.args.sent.now) c.requires.encoded in
    let read = c.read_command.ensures.only command encoded in
    let same : c.unwrap.result ≡ command = cc (read, c.unwrap.ensures) in
    ap is_plain same ∙ c.requires.plain

pub returns-clause-size : goal.returns-clause-size
returns-clause-size c =
    let command : CommandParts = command_in c.args.size (drop 5 c.args.sent.now) in
    let encoded = spelt_for c.args.size command (drop 5 c.args.sent.now) _ (behind c.args.sent.now) c.requires.encoded in
    let read = c.read_command.ensures.only command encoded in
    let same : c.unwrap.result ≡ command = cc (read, c.unwrap.ensures) in
    ap (λ (parts : CommandParts). parts.size) same ∙ c.requires.size

pub returns-clause-encoded : goal.returns-clause-encoded
returns-clause-encoded c =
    let command : CommandParts = command_in c.args.size (drop 5 c.args.sent.now) in
    let encoded = spelt_for c.args.size command (drop 5 c.args.sent.now) _ (behind c.args.sent.now) c.requires.encoded in
    let read = c.read_command.ensures.only command encoded in
    let same : command ≡ c.unwrap.result = cc (read, c.unwrap.ensures) in
    (c.args.size, c.args.size, drop 5 c.args.sent.now, subst (λ (parts : CommandParts). IsCommand c.args.size c.args.size parts (drop 5 c.args.sent.now)) same c.requires.encoded)
