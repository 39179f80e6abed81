-- What reads answer is read as the screen's data.
use Rattle.std.proofs.Common.{◌≡◌, Bool, true, false, length}
use Rattle.codes3270.specs.Size.{ScreenSize, cells_in}
use Rattle.datastream.specs.Screen.{Screen}
use Rattle.datastream.specs.Inbound.{read_modified}
use Rattle.datastream.specs.InboundText.{IsInbound}
use Rattle.datastream.specs.InboundFields.{IsSendable, modified_data}
use Rattle.datastream.proofs.InboundSent.{sent_is_read}
use Rattle.presentation.specs.Answering.{form_of}

pub modified_is_read : (all : Bool) (size : ScreenSize) (screen : Screen) → length screen.cells ≡ cells_in size → IsSendable screen
    → IsInbound (modified_data (form_of all) size screen) (read_modified all screen)
modified_is_read false size screen count sendable = sent_is_read.modified size screen count sendable
modified_is_read true size screen count sendable = sent_is_read.all size screen count sendable
