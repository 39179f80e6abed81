-- The code of the command in a paint's item says whether it erases.
use Rattle.std.proofs.Common.{◌≡◌, ◌||◌, inl, inr, ℕ, Some, List, [], ◌∷◌, drop, refl, ap, ◌∙◌}
use Rattle.codes3270.specs.Size.{ScreenSize, cells_in}
use Rattle.datastream.specs.Grammar.{CommandParts, IsCode, IsCommand}
use Rattle.datastream.specs.Wanted.{WantedScreen}
use Rattle.datastream.specs.declared.command_code.CommandCode.{CommandCode}
use Rattle.datastream.specs.declared.command_code.CommandCode.TheVariants.{Write, EraseWrite, EraseWriteAlternate, ReadBuffer, ReadModified, ReadModifiedAll, EraseAllUnprotected}
use Rattle.shadow.specs.Belief.{Shadow}
use Rattle.shadow.specs.Exactness.{is_erase}
use Rattle.shadow.specs.Paint.{paint}
use Rattle.telnet_wire.specs.Items.{WireItem}
use Rattle.tn3270e_msg.specs.Header.{header_length}
use Rattle.world3270.specs.refinement.Represents.{IsPaint}
use Rattle.world3270.specs.statement.EveryTerminalBytes.{has_code, is_code}

-- its first byte is one of its two codes
record StartsWith (code : CommandCode) (body : List ℕ) : Type 0 where
  byte : ℕ
  more : List ℕ
  is : body ≡ byte ∷ more
  is_its : IsCode code byte

starts_with : (now alternate : ScreenSize) (command : CommandParts) (body : List ℕ) → IsCommand now alternate command body → StartsWith command.code body
starts_with now alternate command body (IsCommand.write byte wcc text writes is_its size wcc_is orders is) = record { byte = byte; more = wcc ∷ text; is = is; is_its = is_its }
starts_with now alternate command body (IsCommand.other byte ignored writes is_its size wcc_is orders is) = record { byte = byte; more = ignored; is = is; is_its = is_its }

-- it says whether it erases
erase_codes : (code : CommandCode) (byte : ℕ) → IsCode code byte → (is_code EraseWrite (byte ∷ []) || is_code EraseWriteAlternate (byte ∷ [])) ≡ is_erase code
erase_codes Write byte (inl is) = ap (λ (b : ℕ). is_code EraseWrite (b ∷ []) || is_code EraseWriteAlternate (b ∷ [])) is
erase_codes Write byte (inr is) = ap (λ (b : ℕ). is_code EraseWrite (b ∷ []) || is_code EraseWriteAlternate (b ∷ [])) is
erase_codes EraseWrite byte (inl is) = ap (λ (b : ℕ). is_code EraseWrite (b ∷ []) || is_code EraseWriteAlternate (b ∷ [])) is
erase_codes EraseWrite byte (inr is) = ap (λ (b : ℕ). is_code EraseWrite (b ∷ []) || is_code EraseWriteAlternate (b ∷ [])) is
erase_codes EraseWriteAlternate byte (inl is) = ap (λ (b : ℕ). is_code EraseWrite (b ∷ []) || is_code EraseWriteAlternate (b ∷ [])) is
erase_codes EraseWriteAlternate byte (inr is) = ap (λ (b : ℕ). is_code EraseWrite (b ∷ []) || is_code EraseWriteAlternate (b ∷ [])) is
erase_codes ReadBuffer byte (inl is) = ap (λ (b : ℕ). is_code EraseWrite (b ∷ []) || is_code EraseWriteAlternate (b ∷ [])) is
erase_codes ReadBuffer byte (inr is) = ap (λ (b : ℕ). is_code EraseWrite (b ∷ []) || is_code EraseWriteAlternate (b ∷ [])) is
erase_codes ReadModified byte (inl is) = ap (λ (b : ℕ). is_code EraseWrite (b ∷ []) || is_code EraseWriteAlternate (b ∷ [])) is
erase_codes ReadModified byte (inr is) = ap (λ (b : ℕ). is_code EraseWrite (b ∷ []) || is_code EraseWriteAlternate (b ∷ [])) is
erase_codes ReadModifiedAll byte (inl is) = ap (λ (b : ℕ). is_code EraseWrite (b ∷ []) || is_code EraseWriteAlternate (b ∷ [])) is
erase_codes ReadModifiedAll byte (inr is) = ap (λ (b : ℕ). is_code EraseWrite (b ∷ []) || is_code EraseWriteAlternate (b ∷ [])) is
erase_codes EraseAllUnprotected byte (inl is) = ap (λ (b : ℕ). is_code EraseWrite (b ∷ []) || is_code EraseWriteAlternate (b ∷ [])) is
erase_codes EraseAllUnprotected byte (inr is) = ap (λ (b : ℕ). is_code EraseWrite (b ∷ []) || is_code EraseWriteAlternate (b ∷ [])) is

-- a paint's item erases where its command does
pub paint_erases : (number : ℕ) (wanted : WantedScreen) (over : Shadow) (item : WireItem) → IsPaint item number wanted over
    → (has_code EraseWrite (Some item) || has_code EraseWriteAlternate (Some item)) ≡ is_erase (paint (cells_in wanted.size) over wanted).code
paint_erases number wanted over item p =
    let command : CommandParts = paint (cells_in wanted.size) over wanted in
    let starts = starts_with wanted.size wanted.size command p.body (p.encoded wanted.size wanted.size (inr refl) (λ writes. refl)) in
    ap (λ (i : WireItem). has_code EraseWrite (Some i) || has_code EraseWriteAlternate (Some i)) p.is_record
    ∙ ap (λ (b : List ℕ). is_code EraseWrite b || is_code EraseWriteAlternate b) (ap (drop header_length) p.begins.encoded ∙ starts.is)
    ∙ erase_codes command.code starts.byte starts.is_its
