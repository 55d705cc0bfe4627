mod Freeing
