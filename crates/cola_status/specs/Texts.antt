-- What the statuses mean, in a few words.
use Rattle.std.specs.Prelude.{ℕ, List, codes}
use Rattle.cola_status.specs.declared.status.Status.{Status}
use Rattle.cola_status.specs.declared.status.Status.TheVariants.{Done, OutOfMemory, WrongWords, SourceFailed, SinkFailed, DeviceFailed, NotStore, NotClosed, NotEmpty, Spent, BadCell, NoRoom, AlreadyWide, Broken, BadLine, TooFewKeys, FilesDiffer, FirstLost, SecondLost}

-- the text of each
abbrev pub text_of : Status → List ℕ
text_of Done = codes "all was done; a session read its input to the end, wrote all replies and closed its file"
text_of OutOfMemory = codes "there was no memory, or the words could not be taken; no line was read"
text_of WrongWords = codes "the words are none of its modes; nothing was read or written"
text_of SourceFailed = codes "reading the input failed; the lines before were answered"
text_of SinkFailed = codes "writing the replies failed; what was written is the beginning of them"
text_of DeviceFailed =
    codes "a file could not be opened, read, laid out, written or closed; one that was empty may have a part of its bytes"
text_of NotStore = codes "the file has no store, or not all of one"
text_of NotClosed = codes "the store in the file was not closed"
text_of NotEmpty = codes "the file that was to be made is not empty; it was not changed"
text_of Spent = codes "2^40 bytes of input were read; every line among them that a line feed ends was answered"
text_of BadCell = codes "a cell of the file is damaged"
text_of NoRoom = codes "there was no room for a put or a delete"
text_of AlreadyWide = codes "the file is of version 2 already; it was not changed"
text_of Broken = codes "the file stands for no map; the line that was written says why; it was not changed"
text_of BadLine =
    codes "a line of the input is no row, is out of order or has no room; the line that was written says which; the new file is no store"
text_of TooFewKeys = codes "the file has more keys than the new one is for; nothing was written"
text_of FilesDiffer = codes "the two files of a mirror differ; nothing was read or written"
text_of FirstLost = codes "all was done, and the first file of the mirror was lost: the second one has what was written"
text_of SecondLost =
    codes "all was done, and the second file of the mirror was lost: the first one has what was written"
