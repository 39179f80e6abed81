-- The texts that a page is sent: `size ROWS COLUMNS`, `token TOKEN`, `heard COUNT`, `keymap KEY=ACTION ..`, `busy`,
-- `ended REASON` (our profile).
use Rattle.std.specs.Prelude.{ℕ, List, ◌++◌, codes, decimal}
use Rattle.hex.specs.Hex.{encode_lower}
use Rattle.web_wire.specs.declared.notice.Notice.{Notice}
use Rattle.web_wire.specs.declared.notice.Notice.TheVariants.{Size, Token, Heard, Keymap, Busy, Ended}

abbrev pub notice_text : Notice → List ℕ
notice_text (Size rows columns) = codes "size " ++ (decimal rows ++ (codes " " ++ decimal columns))
notice_text (Token token) = codes "token " ++ encode_lower token
notice_text (Heard count) = codes "heard " ++ decimal count
notice_text (Keymap words) = codes "keymap" ++ words.now
notice_text Busy = codes "busy"
notice_text (Ended reason) = codes "ended " ++ reason.now
