mod Edits
