mod Linked
mod Occurring
mod SoundBlocks
